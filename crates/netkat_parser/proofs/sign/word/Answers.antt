use Rattle.std.proofs.Common.{◌≡◌, List, ℕ, codes, refl, rules, arith, length}
use Rattle.std.proofs.lemmas.Slice.Eq.{text_from_reads, HasBytesAt}
use Rattle.nk_values.specs.declared.field.Field.TheVariants as field
use Rattle.netkat_parser.specs.declared.sign.Sign.{Sign}
use Rattle.netkat_parser.specs.declared.sign.Sign.TheVariants.{Name}
use Rattle.netkat_parser.specs.Signs.{word}
use Rattle.netkat_parser.proofs.sign.word.Goals as goal

-- a name that reads as these bytes is the word of them
word-read : (name p : List ℕ) (g : Sign) → length name ≡ length p → HasBytesAt name 0 p → g ≡ word p → g ≡ word name
word-read name p g len reads e = rw (text_from_reads name p len reads) e

pub returns-in-ethTyp : goal.returns-in-ethTyp
returns-in-ethTyp c = word-read c.args.name.now (codes "ethTyp") (Name field.EthTyp) (omega arith) (search rules) refl

pub returns-in-ethSrc : goal.returns-in-ethSrc
returns-in-ethSrc c = word-read c.args.name.now (codes "ethSrc") (Name field.EthSrc) (omega arith) (search rules) refl

pub returns-in-ethDst : goal.returns-in-ethDst
returns-in-ethDst c = word-read c.args.name.now (codes "ethDst") (Name field.EthDst) (omega arith) (search rules) refl

pub returns-in-ip4Src : goal.returns-in-ip4Src
returns-in-ip4Src c = word-read c.args.name.now (codes "ip4Src") (Name field.Ip4Src) (omega arith) (search rules) refl

pub returns-in-ip4Dst : goal.returns-in-ip4Dst
returns-in-ip4Dst c = word-read c.args.name.now (codes "ip4Dst") (Name field.Ip4Dst) (omega arith) (search rules) refl

pub returns-in-ipProto : goal.returns-in-ipProto
returns-in-ipProto c = word-read c.args.name.now (codes "ipProto") (Name field.IpProto) (omega arith) (search rules) refl

pub returns-in-tcpSrcPort : goal.returns-in-tcpSrcPort
returns-in-tcpSrcPort c = word-read c.args.name.now (codes "tcpSrcPort") (Name field.TcpSrcPort) (omega arith) (search rules) refl

pub returns-in-tcpDstPort : goal.returns-in-tcpDstPort
returns-in-tcpDstPort c = word-read c.args.name.now (codes "tcpDstPort") (Name field.TcpDstPort) (omega arith) (search rules) refl
