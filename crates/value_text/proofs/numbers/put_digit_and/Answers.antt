use Rattle.std.proofs.Common.{◌+◌, ◌/◌, ◌%◌, ◌++◌, ◌∷◌, [], ◌∙◌, List, ℕ, ap, sym, subst, arith, string_bytes}
use Rattle.std.specs.Str.{IsAscii}
use Rattle.std.proofs.lemmas.Result.{on_ok_weaker}
use Rattle.std.proofs.lemmas.Str.{IsUtf8-from_ascii}
use Rattle.std.proofs.lemmas.Str.Ascii.{IsAscii-nil, IsAscii-cons}
use Rattle.value_text.proofs.Puts.{pushed}
use Rattle.value_text.proofs.numbers.put_digit_and.Goals as goal

pub from_utf8_unchecked-requires : goal.from_utf8_unchecked-requires
from_utf8_unchecked-requires c = IsUtf8-from_ascii _ (IsAscii-cons (48 + c.args.digit) (c.args.after ∷ []) (omega (arith, c.requires.digit)) (IsAscii-cons c.args.after [] c.requires.ascii IsAscii-nil))

pub returns : goal.returns
returns c =
    on_ok_weaker c.push_str.result (λ g. g ∙ ap (λ (x : List ℕ). string_bytes c.args.out.now ++ x) c.from_utf8_unchecked.ensures)
    (pushed _ (string_bytes c.args.out.now) _ c.from_utf8_unchecked.result.now c.push_str.ensures.bytes)
