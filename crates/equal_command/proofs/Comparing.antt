-- What a comparison tells of its document and its source.
use Rattle.std.proofs.Common.{◌≡◌, ◌≢◌, inl, inr, ℕ, List, [], ◌∷◌, length, map, get_or, Option, None, Some, Result, Ok, Err, IfOk, IfErr, IfSome, refl, sym, ◌∙◌, subst, arith}
use Rattle.std.proofs.lemmas.List.{length-map}
use Rattle.std.specs.Prelude.{◌↔◌}
use Rattle.nk_values.specs.Members.{IsIn}
use Rattle.nk_syntax.specs.declared.pol.Pol.{Pol}
use Rattle.nk_syntax.specs.Terms.{Term}
use Rattle.nk_syntax.specs.Views.{term_of}
use Rattle.history_meaning.specs.Plain.{IsPlain}
use Rattle.document_text.specs.Documents.{Doc}
use Rattle.equal_laws.specs.Equals.{HaveSameResults}
use Rattle.fdd_apart.specs.declared.finding.Difference.{Difference}
use Rattle.fdd_compile.specs.Named.{AreFewNamed, TermNames}
use Rattle.outside_io.specs.Lists.{TakesFirst}
use Rattle.policy_equality.specs.Comparisons.{AreApartBy, HaveSameHistories}
use Rattle.value_text.specs.declared.fault.Fault.{Fault}
use Rattle.value_text.specs.declared.fault.Fault.TheVariants as fault
use Rattle.program_answer.specs.declared.answer.Answer.{Answer}
use Rattle.program_answer.specs.declared.answer.AnswerError.{AnswerError}
use Rattle.program_answer.specs.declared.answer.AnswerError.TheVariants as error
use Rattle.program_answer.specs.Answers.{Reads, ReadsFirst, Stops, StopsBy}
use Rattle.program_answer.specs.Called.{SourceSeen}
use Rattle.program_answer.specs.Input.{IsReadAs, IsTextRefusal}
use Rattle.program_answer.specs.Sound.{AreFewNamedIn}
use Rattle.program_answer.proofs.Stopping.{known_more, reads_more, stops_more}
use Rattle.equal_command.specs.Compared.{IsComparedAs, IsEquivTold, IsTextOf, TellsEquivFault, TellsPairFault}
use Rattle.equal_command.specs.Equiv.{HasTwo, IsComparison, equal, apart, IsEquivAnswer, IsEquivRefused, IsNumberFault}

-- the text of what was found compares the policies
pub text-compares : (p q : Term) (o : Option Difference) (text : List ℕ) → IsTextOf o text → (o ≡ None) ↔ HaveSameResults p q → IfSome o (AreApartBy p q) → (o ≡ None → IsPlain p → IsPlain q → HaveSameHistories p q) → IsComparison p q text
text-compares p q None text t same by h = equal (record { results = same.0 refl; histories = h refl }) t
text-compares p q (Some x) text t same by h = apart x by t

-- ---- the two policies of a document

pub two-policies : (items : List Pol) (p q : Pol) → length items ≡ 2 → p ≡ get_or items 0 p → q ≡ get_or items 1 q → map term_of items ≡ term_of p ∷ term_of q ∷ []
two-policies [] p q n e f = absurd (omega (arith, n))
two-policies (x ∷ []) p q n e f = absurd (omega (arith, n))
two-policies (x ∷ y ∷ []) p q n e f = λ i. term_of (sym e i) ∷ term_of (sym f i) ∷ []
two-policies (x ∷ y ∷ z ∷ zs) p q n e f = absurd (omega (arith, n))

pub few-in-first : (ps : List Term) (p q : Term) → ps ≡ p ∷ q ∷ [] → AreFewNamedIn ps → AreFewNamed (TermNames p)
few-in-first ps p q e h = h p (subst (λ (xs : List Term). IsIn xs p) (sym e) (inl refl))

pub few-in-second : (ps : List Term) (p q : Term) → ps ≡ p ∷ q ∷ [] → AreFewNamedIn ps → AreFewNamed (TermNames q)
few-in-second ps p q e h = h q (subst (λ (xs : List Term). IsIn xs q) (sym e) (inr (inl refl)))

pub not-two : (items : List Pol) → length items ≢ 2 → length (map term_of items) ≢ 2
not-two items h e = h (sym (length-map items term_of) ∙ e)

pub compared-told : (d : Doc) (p q : Term) (r : Result Answer AnswerError) → HasTwo d p q → IfOk r (IsComparedAs p q) → IfOk r (IsEquivTold d)
compared-told d p q (Ok a) two h = record { status = h.status; compared = record { first = p; second = q; two = two; meant = h.meant; compared = h.compared } }
compared-told d p q (Err e) two h = tt

pub fault-told : (d : Doc) (after : ℕ) (p q : Term) (r : Result Answer AnswerError) → HasTwo d p q → IfErr r (TellsPairFault p q) → IfErr r (TellsEquivFault d after)
fault-told d after p q (Ok a) two h = tt
fault-told d after p q (Err error.Memory) two h = tt
fault-told d after p q (Err (error.Fault f)) two h = inr (record { first = p; second = q; two = two; of_both = h })

-- an answer to the document of a source
pub equiv-answers : (s : SourceSeen) (d : Doc) (after : ℕ) (a : Answer) → Reads (λ xs. IsReadAs xs d after) s → IsEquivTold d a → IsEquivAnswer s a.status a.text
equiv-answers s d after a r told = record {
  status_is = told.status;
  read = reads_more _ _ s (λ xs h. record { document = d; read = h.document; compared = told.compared }) r;
}

-- what is refused for its text
pub text-stops : (s : SourceSeen) (e : AnswerError) → Stops IsTextRefusal s e → Stops IsEquivRefused s e
text-stops s e h = stops_more IsTextRefusal IsEquivRefused (λ xs f r. inl r) s e h

-- a fault of the document of a source
stops-first : (s : SourceSeen) (d : Doc) (after : ℕ) (f : Fault) → Reads (λ xs. IsReadAs xs d after) s → TakesFirst 4194305 s.left.before s.left.after → TellsEquivFault d after (error.Fault f) → ReadsFirst (λ xs. IsEquivRefused xs f) s
stops-first s d after f r taken told = record {
  taken = taken;
  faultless = r.faultless;
  bytes = known_more _ _ s.left.before
      (λ xs h. elim told [
        | inl n ↦ inr (inl (record { document = d; read = h.document; number = subst (λ (k : ℕ). IsNumberFault d k f) h.after_is n }))
        | inr m ↦ inr (inr (record { document = d; read = h.document; meaning = m }))
      ])
      r.bytes;
}

-- the fault is of the number of policies, or of a policy
abbrev IsOfPolicies : Fault → Type 0
IsOfPolicies (fault.NotTwo line) = Unit {0}
IsOfPolicies (fault.Compile policy f) = Unit {0}
IsOfPolicies _ = ⊥

of-policies : (d : Doc) (after : ℕ) (f : Fault) → TellsEquivFault d after (error.Fault f) → IsOfPolicies f
of-policies d after f (inl n) = subst IsOfPolicies (sym n.is) tt
of-policies d after f (inr m) = subst IsOfPolicies (sym m.of_both.is) tt

by-first : (s : SourceSeen) (f : Fault) → IsOfPolicies f → ReadsFirst (λ xs. IsEquivRefused xs f) s → StopsBy IsEquivRefused s f
by-first s (fault.NotTwo line) k r = r
by-first s (fault.Compile policy f) k r = r
by-first s (fault.Line line column f) k r = absurd k
by-first s (fault.NotEnabled line) k r = absurd k
by-first s (fault.Emit policy f) k r = absurd k
by-first s fault.Read k r = absurd k
by-first s fault.Net k r = absurd k
by-first s fault.NoThread k r = absurd k
by-first s fault.Report k r = absurd k
by-first s fault.Usage k r = absurd k

pub equiv-stops : (s : SourceSeen) (d : Doc) (after : ℕ) (e : AnswerError) → Reads (λ xs. IsReadAs xs d after) s → TakesFirst 4194305 s.left.before s.left.after → TellsEquivFault d after e → Stops IsEquivRefused s e
equiv-stops s d after error.Memory r taken told = r.faultless
equiv-stops s d after (error.Fault f) r taken told = by-first s f (of-policies d after f told) (stops-first s d after f r taken told)

-- the same of a call's result
pub if-answers : (s : SourceSeen) (d : Doc) (after : ℕ) (r : Result Answer AnswerError) → Reads (λ xs. IsReadAs xs d after) s → IfOk r (IsEquivTold d) → IfOk r (λ a. IsEquivAnswer s a.status a.text)
if-answers s d after (Ok a) read h = equiv-answers s d after a read h
if-answers s d after (Err e) read h = tt

pub if-stops : (s : SourceSeen) (d : Doc) (after : ℕ) (r : Result Answer AnswerError) → Reads (λ xs. IsReadAs xs d after) s → TakesFirst 4194305 s.left.before s.left.after → IfErr r (TellsEquivFault d after) → IfErr r (Stops IsEquivRefused s)
if-stops s d after (Ok a) read taken h = tt
if-stops s d after (Err e) read taken h = equiv-stops s d after e read taken h
