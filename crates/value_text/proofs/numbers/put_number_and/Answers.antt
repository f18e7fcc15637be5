use Rattle.std.proofs.Common.{◌++◌, ◌∷◌, [], ◌/◌, List, ℕ, sym, ap, ◌∙◌, arith, string_bytes, append_assoc}
use Rattle.std.specs.Prelude.{decimal}
use Rattle.std.proofs.lemmas.Fmt.{decimal_digit}
use Rattle.std.proofs.lemmas.Result.{on_ok_weaker}
use Rattle.value_text.proofs.Decimals.{two, pair}
use Rattle.value_text.proofs.Puts.{then_put}
use Rattle.value_text.proofs.numbers.put_number_and.Goals as goal

pub returns-then-number-lt10 : goal.returns-then-number-lt10
returns-then-number-lt10 c =
    let one = decimal_digit c.args.number (omega (arith, c.if-number-lt10.true)) in
    on_ok_weaker c.put_digit_and.result (λ g. g ∙ ap (λ (x : List ℕ). string_bytes c.args.out.now ++ (x ++ c.args.after ∷ [])) (sym one)) c.put_digit_and.ensures

pub returns-then-number-lt100 : goal.returns-then-number-lt100
returns-then-number-lt100 c =
    let both = pair c.args.number (omega (arith, c.if-number-lt10.false)) (omega (arith, c.if-number-lt100.true)) in
    on_ok_weaker c.put_pair_and.result (λ g. g ∙ ap (λ (x : List ℕ). string_bytes c.args.out.now ++ (x ++ c.args.after ∷ [])) (sym both)) c.put_pair_and.ensures

pub returns : goal.returns
returns c =
    let both = two c.args.number (omega (arith, c.if-number-lt100.false)) (omega (arith, c.ranges.number.fits)) in
    on_ok_weaker c.put_pair_and-2.result (λ g. g ∙ ap (λ (x : List ℕ). string_bytes c.args.out.now ++ x) (sym (append_assoc (decimal (c.args.number / 100)) _ (c.args.after ∷ [])) ∙ ap (λ (x : List ℕ). x ++ c.args.after ∷ []) (sym both)))
    (then_put c.put_pair_and-2.result _ _ _ _ _ c.in_ok-put_number.ensures c.put_pair_and-2.ensures)
