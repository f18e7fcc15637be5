use Rattle.std.proofs.Common.{◌++◌, ◌∙◌, List, ℕ, ap, sym, subst, string_bytes}
use Rattle.std.specs.Str.{IsAscii}
use Rattle.std.proofs.lemmas.Result.{on_ok_weaker}
use Rattle.std.proofs.lemmas.Str.{IsUtf8-from_ascii}
use Rattle.value_text.proofs.Macs.{half_ascii}
use Rattle.value_text.proofs.Puts.{pushed}
use Rattle.value_text.proofs.hex.put_hex_half.Goals as goal

pub from_utf8_unchecked-requires : goal.from_utf8_unchecked-requires
from_utf8_unchecked-requires c = IsUtf8-from_ascii _ (subst IsAscii (sym c.half_digits-digits.ensures) (half_ascii c.args.number))

pub returns : goal.returns
returns c =
    on_ok_weaker c.push_str.result (λ g. g ∙ ap (λ (x : List ℕ). string_bytes c.args.out.now ++ x) (c.from_utf8_unchecked.ensures ∙ c.half_digits-digits.ensures))
    (pushed _ (string_bytes c.args.out.now) _ c.from_utf8_unchecked.result.now c.push_str.ensures.bytes)
