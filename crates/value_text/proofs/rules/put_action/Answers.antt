use Rattle.std.proofs.Common.{◌≡◌, ◌++◌, ◌∙◌, ◌∷◌, [], List, ℕ, ap, arith, codes, string_bytes, sym}
use Rattle.std.specs.Prelude.{decimal}
use Rattle.std.proofs.lemmas.Fmt.{decimal_digit, decimal_step}
use Rattle.std.proofs.lemmas.Result.{on_ok_weaker}
use Rattle.nk_values.specs.declared.action.Action.TheVariants.{Output}
use Rattle.value_text.specs.Rules.{action_text}
use Rattle.value_text.proofs.Puts.{pushed}
use Rattle.value_text.proofs.rules.put_action.Goals as goal

-- the text of the number that stands for a packet's own port
five_digits : decimal 65528 ≡ codes "65528"
five_digits =
    decimal_step 65528 (omega arith) (omega arith) ∙ ap (λ (x : List ℕ). x ++ 56 ∷ [])
    (decimal_step 6552 (omega arith) (omega arith) ∙ ap (λ (x : List ℕ). x ++ 50 ∷ [])
    (decimal_step 655 (omega arith) (omega arith) ∙ ap (λ (x : List ℕ). x ++ 53 ∷ [])
    (decimal_step 65 (omega arith) (omega arith) ∙ ap (λ (x : List ℕ). x ++ 53 ∷ []) (decimal_digit 6 (omega arith)))))

own_port : codes "output 65528" ≡ action_text (Output 65528)
own_port = ap (λ (x : List ℕ). codes "output " ++ x) (sym five_digits)

pub returns-in-Output-eq65528 : goal.returns-in-Output-eq65528
returns-in-Output-eq65528 c =
    let is = c.in-Output-eq65528.is ∙ ap Output (sym c.in-Output-eq65528.field-0-is ∙ c.in-Output-eq65528.field-0-test) in
    on_ok_weaker c.push_str.result (λ g. g ∙ ap (λ (x : List ℕ). string_bytes c.args.out.now ++ x) (own_port ∙ sym (ap action_text is)))
    (pushed _ (string_bytes c.args.out.now) _ (codes "output 65528") c.push_str.ensures.bytes)
