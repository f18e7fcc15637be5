-- Numbers up to the greatest one of any field.
use Rattle.std.proofs.Common.{ℕ, ◌<◌, ◌≤◌, ◌^◌, Option, Some, None, arith}
use Rattle.std.specs.Option.{IfSome}
use Rattle.nk_values.specs.declared.field.Field.{Field}
use Rattle.nk_values.specs.declared.field.Field.TheVariants.{Sw, Pt, EthTyp, IpProto, EthSrc, EthDst, Ip4Src, Ip4Dst, TcpSrcPort, TcpDstPort}
use Rattle.nk_values.specs.Ranges.{greatest, IsLiteralOf}
use Rattle.netkat_parser.specs.Numbers.{IsUpTo}

greatest-of-all : (f : Field) → greatest f ≤ 281474976710655
greatest-of-all Sw = omega arith
greatest-of-all Pt = omega arith
greatest-of-all EthTyp = omega arith
greatest-of-all IpProto = omega arith
greatest-of-all EthSrc = omega arith
greatest-of-all EthDst = omega arith
greatest-of-all Ip4Src = omega arith
greatest-of-all Ip4Dst = omega arith
greatest-of-all TcpSrcPort = omega arith
greatest-of-all TcpDstPort = omega arith

-- what is above the greatest of all is no literal
pub too-great : (f : Field) (written : Option ℕ) → IsUpTo 281474976710655 written None → IfSome written (λ n. ¬ (IsLiteralOf f n))
too-great f None h = tt
too-great f (Some n) h = λ l. omega (arith, greatest-of-all f, l.value.high)

pub literal-small : (f : Field) (n : ℕ) → IsLiteralOf f n → n < 2 ^ 64
literal-small f n l = omega (arith, greatest-of-all f, l.value.high)
