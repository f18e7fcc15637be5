use Rattle.std.proofs.Common.{◌+◌, ◌/◌, ◌%◌, ◌++◌, ◌∷◌, [], ◌∙◌, List, ℕ, ap, sym, subst, arith, string_bytes}
use Rattle.std.specs.Str.{IsAscii}
use Rattle.std.proofs.lemmas.Result.{on_ok_weaker}
use Rattle.std.proofs.lemmas.Str.{IsUtf8-from_ascii}
use Rattle.std.proofs.lemmas.Str.Ascii.{IsAscii-nil, IsAscii-cons}
use Rattle.value_text.proofs.Puts.{pushed}
use Rattle.value_text.proofs.numbers.put_pair.Goals as goal

pub from_utf8_unchecked-requires : goal.from_utf8_unchecked-requires
from_utf8_unchecked-requires c =
    IsUtf8-from_ascii _ (subst IsAscii (sym c.pair_digits-digits.ensures)
    (IsAscii-cons (48 + c.args.number / 10) ((48 + c.args.number % 10) ∷ []) (omega (arith, c.requires))
    (IsAscii-cons (48 + c.args.number % 10) [] (omega arith) IsAscii-nil)))

pub returns : goal.returns
returns c =
    on_ok_weaker c.push_str.result (λ g. g ∙ ap (λ (x : List ℕ). string_bytes c.args.out.now ++ x) (c.from_utf8_unchecked.ensures ∙ c.pair_digits-digits.ensures))
    (pushed _ (string_bytes c.args.out.now) _ c.from_utf8_unchecked.result.now c.push_str.ensures.bytes)
