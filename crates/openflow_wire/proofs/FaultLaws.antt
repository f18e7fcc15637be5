-- The first fault of bytes is what reading gives where it gives no message.
use Rattle.std.proofs.Common.{◌≡◌, ◌≢◌, ℕ, ◌-◌, ◌%◌, ◌<◌, ◌≤◌, ◌⊎◌, Bool, true, false, eqb, leb, List, [], ◌∷◌, length, drop, Option, Some, None, Result, Ok, Err, refl, sym, ap, subst, ◌∙◌, inl, inr, arith}
use Rattle.std.specs.Prelude.{◌&&◌, not, IfOk, IfErr, is_ok}
use Rattle.std.proofs.lemmas.Bool.{le-ltb, lt-ltb, lt-leb, le-leb, eq-eqb, cases_lt}
use Rattle.nk_values.specs.declared.row.FlowMod.{FlowMod}
use Rattle.nk_values.specs.declared.row.FlowCommand.{FlowCommand}
use Rattle.openflow_wire.specs.declared.message.Message.{Message}
use Rattle.openflow_wire.specs.declared.message.Message.TheVariants as to
use Rattle.openflow_wire.specs.declared.fault.WireFault.{WireFault}
use Rattle.openflow_wire.specs.declared.fault.WireFault.TheVariants.{BadVersion, BadLength, BadAction, BadCommand}
use Rattle.openflow_wire.specs.declared.fault.WireError.{WireError}
use Rattle.openflow_wire.specs.declared.fault.WireError.TheVariants.{Fault, Memory}
use Rattle.openflow_wire.specs.Places.{number_at}
use Rattle.openflow_wire.specs.Matches.{match_at}
use Rattle.openflow_wire.specs.Spelling.{Spells, IsLight, KeepsBytes, IsNoneOf}
use Rattle.openflow_wire.specs.Faults.{IsSpoken, IsSoundHead, among, body_lengths, has_length, HasCommand, HasActions, IsBodyFault, IsFirstFault, IsRefusal}
use Rattle.openflow_wire.specs.Reading.{◌>>=◌, ReadsAs, command_of, change_of, error_of, features_of, bare, body_rows, body_of, reads}
use Rattle.openflow_wire.proofs.TestLaws.{err, err-is, test}
use Rattle.openflow_wire.proofs.ActionLaws.{actions-again, actions-case, actions-spelled}
use Rattle.openflow_wire.proofs.StatsLaws.{request-told, reply-told, request-short, reply-short, request-misled, reply-fault}
use Rattle.openflow_wire.proofs.Laws.{by-row, keys, among-none, command-again, command-spelled, read-spelled, spelled-read}

abbrev EachAt : {A : Type 0} → (A → Type 0) → ℕ → List (ℕ × A) → Type 0
EachAt P kind [] = Unit {0}
EachAt P kind (row ∷ rows) = (kind ≡ row.0 → P row.1) × EachAt P kind rows

-- what holds of each line of a table holds of the one that counts
each-row : {A : Type 0} (P : A → Type 0) (kind : ℕ) (rows : List (ℕ × A)) (other : A) → EachAt P kind rows → (IsNoneOf (keys rows) kind → P other) → P (among kind rows other)
each-row P kind [] other each none = none tt
each-row P kind (row ∷ rows) other each none =
    elim (test kind row.0) [
      | inl t ↦ rw t.0 (each.0 t.1)
      | inr f ↦ rw f.0 (each-row P kind rows other each.1 (λ h. none (f.1, h)))
    ]

some-case : {A : Type 0} (o : Option A) → (o ≡ None) ⊎ ((x : A) × (o ≡ Some x))
some-case None = inl refl
some-case (Some x) = inr (x, refl)

-- ---- a flow mod: the tests in order, each with what it says

data ChangeWay (body : List ℕ) : Type 0 where
  short : length body < 64 → change_of body ≡ Err BadLength → ChangeWay body
  no_command : 64 ≤ length body → ¬ HasCommand body → change_of body ≡ Err BadCommand → ChangeWay body
  no_actions : 64 ≤ length body → HasCommand body → ¬ HasActions body → change_of body ≡ Err BadAction → ChangeWay body
  right : (change : FlowMod) → 64 ≤ length body → HasCommand body → HasActions body → change_of body ≡ Ok change → ChangeWay body

with-command : (body : List ℕ) (c : FlowCommand) → 64 ≤ length body → command_of (number_at 2 48 body) ≡ Some c → ChangeWay body
unfolding change_of
with-command body c long e =
    let l = le-ltb (length body) 64 long in
    let has : HasCommand body = (c, command-spelled (number_at 2 48 body) c e) in
    elim (actions-case (drop 64 body)) [
      | inl bad ↦ no_actions long has (λ h. let again = actions-again (drop 64 body) h.0 h.1 in absurd cc) (rw (l, e, bad) refl)
      | inr good ↦ right (record { command = c; pattern = match_at body; priority = number_at 2 54 body; out_port = number_at 2 60 body; actions = good.0 })
          long has (good.0, actions-spelled (drop 64 body) good.0 good.1) (let g = good.1 in rw (l, e, g) refl)
    ]

change-way : (body : List ℕ) → ChangeWay body
unfolding change_of
change-way body =
    elim (cases_lt (length body) 64) [
      | inl lt ↦ short lt (let l = lt-ltb (length body) 64 lt in rw l refl)
      | inr long ↦ elim (some-case (command_of (number_at 2 48 body))) [
        | inl none ↦ no_command long (λ h. let again = ap command_of h.1 ∙ command-again h.0 in absurd cc) (let l = le-ltb (length body) 64 long in rw (l, none) refl)
        | inr some ↦ with-command body some.0 long some.1
      ]
    ]

-- ---- what is told of a body is its fault

wrong : (kind k : ℕ) (body : List ℕ) (f : WireFault) → kind ≡ k → BadLength ≡ f → has_length k (length body) ≡ false → IsBodyFault kind body f
wrong kind k body f is e h = subst (λ (g : WireFault). IsBodyFault kind body g) e (inl (subst (λ (i : ℕ). has_length i (length body) ≡ false) (sym is) h))

error-told : (kind xid : ℕ) (body : List ℕ) (f : WireFault) → kind ≡ 1 → error_of xid body ≡ Err f → IsBodyFault kind body f
unfolding error_of
error-told kind xid body f is e =
    elim (cases_lt (length body) 4) [
      | inl lt ↦ wrong kind 1 body f is (let l = lt-ltb (length body) 4 lt in err-is {A = Message} BadLength f (rw l at e)) (lt-leb 4 (length body) lt)
      | inr long ↦ (let l = le-ltb (length body) 4 long in let r = rw l at e in absurd cc)
    ]

features-told : (kind xid : ℕ) (body : List ℕ) (f : WireFault) → kind ≡ 6 → features_of xid body ≡ Err f → IsBodyFault kind body f
unfolding features_of
features-told kind xid body f is e =
    elim (cases_lt (length body) 24) [
      | inl lt ↦ wrong kind 6 body f is (let l = lt-ltb (length body) 24 lt in err-is {A = Message} BadLength f (rw l at e)) (let l = lt-leb 24 (length body) lt in rw l refl)
      | inr long ↦ (let l = le-ltb (length body) 24 long in let k = le-leb 24 (length body) long in
          elim (test ((length body - 24) % 48) 0) [
            | inl t ↦ (let q = t.0 in let r = rw (l, q) at e in absurd cc)
            | inr t ↦ (let q = t.0 in wrong kind 6 body f is (err-is {A = Message} BadLength f (rw (l, q) at e)) (rw (k, q) refl))
          ])
    ]

bare-told : (kind k : ℕ) (m : Message) (body : List ℕ) (f : WireFault) → kind ≡ k → has_length k (length body) ≡ eqb (length body) 0 → bare m body ≡ Err f → IsBodyFault kind body f
bare-told kind k m body f is same e =
    elim (test (length body) 0) [
      | inl t ↦ (let q = t.0 in let r = rw q at e in absurd cc)
      | inr t ↦ (let q = t.0 in wrong kind k body f is (err-is {A = Message} BadLength f (rw q at e)) (same ∙ q))
    ]

change-told : (kind xid : ℕ) (body : List ℕ) (f : WireFault) → kind ≡ 14 → (change_of body >>= λ change. Ok (to.FlowMod xid change)) ≡ Err f → IsBodyFault kind body f
change-told kind xid body f is e =
    elim (change-way body) [
      | short lt r ↦ wrong kind 14 body f is (err-is {A = Message} BadLength f (rw r at e)) (lt-leb 64 (length body) lt)
      | no_command long lacks r ↦ subst (λ (g : WireFault). IsBodyFault kind body g) (err-is {A = Message} BadCommand f (rw r at e)) (is, long, lacks)
      | no_actions long has lacks r ↦ subst (λ (g : WireFault). IsBodyFault kind body g) (err-is {A = Message} BadAction f (rw r at e)) (inl (is, long, has, lacks))
      | right change long has all r ↦ (let q = rw r at e in absurd cc)
    ]

body-told : (version kind xid : ℕ) (body : List ℕ) (f : WireFault) → body_of version kind xid body ≡ Err f → IsBodyFault kind body f
body-told version kind xid body f e =
    by-row (IsBodyFault kind body f) kind (body_rows version xid body) (Ok (to.Other kind xid body)) (Err f) e (
      (λ k e. absurd cc),
      (
        λ k e. error-told kind xid body f k e,
        (
          λ k e. absurd cc,
          (
            λ k e. absurd cc,
            (
              λ k e. bare-told kind 5 (to.FeaturesRequest xid) body f k refl e,
              (
                λ k e. features-told kind xid body f k e,
                (
                  λ k e. change-told kind xid body f k e,
                  (
                    λ k e. request-told kind xid body f k e,
                    (
                      λ k e. reply-told kind xid body f k e,
                      (λ k e. bare-told kind 18 (to.BarrierRequest xid) body f k refl e, (λ k e. bare-told kind 19 (to.BarrierReply xid) body f k refl e, tt)),
                    ),
                  ),
                ),
              ),
            ),
          ),
        ),
      ),
    )
    (λ lacks e. absurd cc)

-- ---- the fault of a body is what is told of it

error-short : (xid : ℕ) (body : List ℕ) → leb 4 (length body) ≡ false → error_of xid body ≡ Err BadLength
unfolding error_of
error-short xid body h =
    elim (cases_lt (length body) 4) [
      | inl lt ↦ (let l = lt-ltb (length body) 4 lt in rw l refl)
      | inr long ↦ (let k = le-leb 4 (length body) long in absurd cc)
    ]

features-short : (xid : ℕ) (body : List ℕ) → (leb 24 (length body) && eqb ((length body - 24) % 48) 0) ≡ false → features_of xid body ≡ Err BadLength
unfolding features_of
features-short xid body h =
    elim (cases_lt (length body) 24) [
      | inl lt ↦ (let l = lt-ltb (length body) 24 lt in rw l refl)
      | inr long ↦ (let l = le-ltb (length body) 24 long in let k = le-leb 24 (length body) long in let q = rw k at h in rw (l, q) refl)
    ]

change-short : (xid : ℕ) (body : List ℕ) → leb 64 (length body) ≡ false → (change_of body >>= λ change. Ok (to.FlowMod xid change)) ≡ Err BadLength
unfolding change_of
change-short xid body h =
    elim (cases_lt (length body) 64) [
      | inl lt ↦ (let l = lt-ltb (length body) 64 lt in rw l refl)
      | inr long ↦ (let k = le-leb 64 (length body) long in absurd cc)
    ]

bare-long : (m : Message) (body : List ℕ) → eqb (length body) 0 ≡ false → bare m body ≡ Err BadLength
bare-long m body h = rw h refl

any-length : (kind n : ℕ) → IsNoneOf (0 ∷ 1 ∷ 2 ∷ 3 ∷ 5 ∷ 6 ∷ 14 ∷ 16 ∷ 17 ∷ 18 ∷ 19 ∷ []) kind → has_length kind n ≡ true
any-length kind n h =
    ap (λ (p : ℕ → Bool). p n) (among-none kind body_lengths (λ n. true)
    (h.1.0, (h.1.1.1.1.0, (h.1.1.1.1.1.0, (h.1.1.1.1.1.1.0, (h.1.1.1.1.1.1.1.0, (h.1.1.1.1.1.1.1.1.0, (h.1.1.1.1.1.1.1.1.1.0, (h.1.1.1.1.1.1.1.1.1.1.0, tt)))))))))

length-read : (version kind xid : ℕ) (body : List ℕ) → has_length kind (length body) ≡ false → body_of version kind xid body ≡ Err BadLength
length-read version kind xid body h =
    let at : (k : ℕ) → kind ≡ k → has_length k (length body) ≡ false = λ k e. subst (λ (i : ℕ). has_length i (length body) ≡ false) e h in
    each-row (λ (r : Result Message WireFault). r ≡ Err BadLength) kind (body_rows version xid body) (Ok (to.Other kind xid body)) (
      (λ k. let t = at 0 k in absurd cc),
      (
        λ k. error-short xid body (at 1 k),
        (
          λ k. (let t = at 2 k in absurd cc),
          (
            λ k. (let t = at 3 k in absurd cc),
            (
              λ k. bare-long (to.FeaturesRequest xid) body (at 5 k),
              (
                λ k. features-short xid body (at 6 k),
                (
                  λ k. change-short xid body (at 14 k),
                  (
                    λ k. request-short xid body (at 16 k),
                    (
                      λ k. reply-short xid body (at 17 k),
                      (λ k. bare-long (to.BarrierRequest xid) body (at 18 k), (λ k. bare-long (to.BarrierReply xid) body (at 19 k), tt)),
                    ),
                  ),
                ),
              ),
            ),
          ),
        ),
      ),
    )
    (λ lacks. let t = any-length kind (length body) lacks in absurd cc)

command-read : (xid : ℕ) (body : List ℕ) → 64 ≤ length body → ¬ HasCommand body → (change_of body >>= λ change. Ok (to.FlowMod xid change)) ≡ Err BadCommand
command-read xid body long lacks =
    elim (change-way body) [
      | short lt r ↦ absurd (omega arith)
      | no_command ge lacked r ↦ rw r refl
      | no_actions ge has lacked r ↦ absurd (lacks has)
      | right change ge has all r ↦ absurd (lacks has)
    ]

action-read : (xid : ℕ) (body : List ℕ) → 64 ≤ length body → HasCommand body → ¬ HasActions body → (change_of body >>= λ change. Ok (to.FlowMod xid change)) ≡ Err BadAction
action-read xid body long has lacks =
    elim (change-way body) [
      | short lt r ↦ absurd (omega arith)
      | no_command ge lacked r ↦ absurd (lacked has)
      | no_actions ge h lacked r ↦ rw r refl
      | right change ge h all r ↦ absurd (lacks all)
    ]

body-read : (version kind xid : ℕ) (body : List ℕ) (f : WireFault) → IsBodyFault kind body f → body_of version kind xid body ≡ Err f
body-read version kind xid body BadVersion h = absurd h
body-read version kind xid body BadLength (inl h) = length-read version kind xid body h
body-read version kind xid body BadLength (inr (inl h)) =
    subst (λ (k : ℕ). body_of version k xid body ≡ Err BadLength) (sym h.kind_is) (request-misled xid body h.long h.form_is h.size)
body-read version kind xid body BadLength (inr (inr h)) =
    subst (λ (k : ℕ). body_of version k xid body ≡ Err BadLength) (sym h.kind_is) (reply-fault xid body BadLength h.long h.form_is h.entries)
body-read version kind xid body BadCommand h = subst (λ (k : ℕ). body_of version k xid body ≡ Err BadCommand) (sym h.0) (command-read xid body h.1 h.2)
body-read version kind xid body BadAction (inl h) = subst (λ (k : ℕ). body_of version k xid body ≡ Err BadAction) (sym h.0) (action-read xid body h.1 h.2 h.3)
body-read version kind xid body BadAction (inr h) =
    subst (λ (k : ℕ). body_of version k xid body ≡ Err BadAction) (sym h.kind_is) (reply-fault xid body BadAction h.long h.form_is h.entries)

-- ---- whole messages: the tests of the head in order, each with what it says

abbrev body_at : List ℕ → Result Message WireFault
body_at bytes = body_of (number_at 1 0 bytes) (number_at 1 1 bytes) (number_at 4 4 bytes) (drop 8 bytes)

data Way (bytes : List ℕ) : Type 0 where
  few : length bytes < 8 → reads bytes ≡ Err BadLength → Way bytes
  other : 8 ≤ length bytes → ¬ IsSpoken bytes → reads bytes ≡ Err BadVersion → Way bytes
  misled : 8 ≤ length bytes → IsSpoken bytes → number_at 2 2 bytes ≢ length bytes → reads bytes ≡ Err BadLength → Way bytes
  sound : IsSoundHead bytes → reads bytes ≡ body_at bytes → Way bytes

spoken-test : (v k : ℕ) → (v ≡ 1) ⊎ (k ≡ 0) → (not (eqb v 1) && not (eqb k 0)) ≡ false
spoken-test v k (inl e) = rw (eq-eqb v 1 e) refl
spoken-test v k (inr e) = rw (eq-eqb k 0 e) (elim (test v 1) [ inl t ↦ rw t.0 refl | inr f ↦ rw f.0 refl ])

spoken-way : (bytes : List ℕ) → 8 ≤ length bytes → IsSpoken bytes → Way bytes
unfolding reads
spoken-way bytes long v =
    let l = le-ltb (length bytes) 8 long in
    let r = spoken-test (number_at 1 0 bytes) (number_at 1 1 bytes) v in
    elim (test (number_at 2 2 bytes) (length bytes)) [
      | inl t ↦ (let q = t.0 in sound (record { long = long; spoken = v; length_is = t.1 }) (rw (l, r, q) refl))
      | inr t ↦ (let q = t.0 in misled long v t.1 (rw (l, r, q) refl))
    ]

way : (bytes : List ℕ) → Way bytes
unfolding reads
way bytes =
    elim (cases_lt (length bytes) 8) [
      | inl lt ↦ few lt (let l = lt-ltb (length bytes) 8 lt in rw l refl)
      | inr long ↦ elim (test (number_at 1 0 bytes) 1) [
        | inl v ↦ spoken-way bytes long (inl v.1)
        | inr v ↦ elim (test (number_at 1 1 bytes) 0) [
          | inl k ↦ spoken-way bytes long (inr k.1)
          | inr k ↦ (let l = le-ltb (length bytes) 8 long in let a = v.0 in let b = k.0 in
              other long (λ s. elim s [ inl x ↦ v.1 x | inr x ↦ k.1 x ]) (rw (l, a, b) refl))
        ]
      ]
    ]

pub read-fault : (bytes : List ℕ) (f : WireFault) → reads bytes ≡ Err f → IsFirstFault bytes f
read-fault bytes f e =
    elim (way bytes) [
      | few lt r ↦ inl (lt, err-is {A = Message} f BadLength (sym e ∙ r))
      | other long lacks r ↦ inr (inl (long, lacks, err-is {A = Message} f BadVersion (sym e ∙ r)))
      | misled long s ne r ↦ inr (inr (inl (long, s, ne, err-is {A = Message} f BadLength (sym e ∙ r))))
      | sound s r ↦ inr (inr (inr (s, body-told (number_at 1 0 bytes) (number_at 1 1 bytes) (number_at 4 4 bytes) (drop 8 bytes) f (sym r ∙ e))))
    ]

abbrev told_as : List ℕ → WireFault → Type 0
told_as bytes f = reads bytes ≡ Err f

pub fault-read : (bytes : List ℕ) (f : WireFault) → IsFirstFault bytes f → reads bytes ≡ Err f
fault-read bytes f (inl h) =
    elim (way bytes) [
      | few lt r ↦ r ∙ ap (λ (g : WireFault). err g) (sym h.1)
      | other long lacks r ↦ absurd (omega (arith, h.0))
      | misled long s ne r ↦ absurd (omega (arith, h.0))
      | sound s r ↦ absurd (omega (arith, h.0, s.long))
    ]
fault-read bytes f (inr (inl h)) =
    elim (way bytes) [
      | few lt r ↦ absurd (omega (arith, h.0))
      | other long lacks r ↦ r ∙ ap (λ (g : WireFault). err g) (sym h.2)
      | misled long s ne r ↦ absurd (h.1 s)
      | sound s r ↦ absurd (h.1 s.spoken)
    ]
fault-read bytes f (inr (inr (inl h))) =
    elim (way bytes) [
      | few lt r ↦ absurd (omega (arith, h.0))
      | other long lacks r ↦ absurd (lacks h.1)
      | misled long s ne r ↦ r ∙ ap (λ (g : WireFault). err g) (sym h.3)
      | sound s r ↦ absurd (h.2 s.length_is)
    ]
fault-read bytes f (inr (inr (inr h))) =
    elim (way bytes) [
      | few lt r ↦ absurd (omega (arith, h.0.long))
      | other long lacks r ↦ absurd (lacks h.0.spoken)
      | misled long s ne r ↦ absurd (ne h.0.length_is)
      | sound s r ↦ r ∙ body-read (number_at 1 0 bytes) (number_at 1 1 bytes) (number_at 4 4 bytes) (drop 8 bytes) f h.1
    ]

-- ---- what a call answers

result-case : (r : Result Message WireFault) → ((m : Message) × (r ≡ Ok m)) ⊎ ((f : WireFault) × (r ≡ Err f))
result-case (Ok m) = inl (m, refl)
result-case (Err f) = inr (f, refl)

pub spelled-or-fault : (bytes : List ℕ) → ((m : Message) × Spells bytes m) ⊎ ((f : WireFault) × IsFirstFault bytes f)
spelled-or-fault bytes = elim (result-case (reads bytes)) [ inl p ↦ inl (p.0, read-spelled bytes p.0 p.1) | inr p ↦ inr (p.0, read-fault bytes p.0 p.1) ]

pub spelled-no-fault : (bytes : List ℕ) (m : Message) (f : WireFault) → Spells bytes m → ¬ (IsFirstFault bytes f)
spelled-no-fault bytes m f s h = let a = spelled-read bytes m s in let b = fault-read bytes f h in absurd cc

pub one-fault : (bytes : List ℕ) (f g : WireFault) → IsFirstFault bytes f → IsFirstFault bytes g → f ≡ g
one-fault bytes f g h k = err-is {A = Message} f g (sym (fault-read bytes f h) ∙ fault-read bytes g k)

given-fault : (r : Result Message WireError) (f : WireFault) → ReadsAs r (err f) → r ≡ Err (Fault f)
given-fault (Ok m) f given = absurd cc
given-fault (Err Memory) f given = absurd cc
given-fault (Err (Fault g)) f given = (let e = err-is {A = Message} f g given in cc)

pub is-fault : (bytes : List ℕ) (r : Result Message WireError) (f : WireFault) → ReadsAs r (reads bytes) → IsFirstFault bytes f → r ≡ Err (Fault f)
is-fault bytes r f given h = given-fault r f (subst (λ (x : Result Message WireFault). ReadsAs r x) (fault-read bytes f h) given)

pub memory-told : (bytes : List ℕ) (read : Result Message WireFault) → reads bytes ≡ read → is_ok read ≡ true → (m : Message) × Spells bytes m
memory-told bytes (Ok m) e ok = (m, read-spelled bytes m e)
memory-told bytes (Err f) e ok = absurd cc

pub is-told : (bytes : List ℕ) (r : Result Message WireError) → ReadsAs r (reads bytes) → IfErr r (λ e. IsRefusal bytes e)
is-told bytes (Ok m) given = tt
is-told bytes (Err (Fault f)) given = read-fault bytes f given
is-told bytes (Err Memory) given = memory-told bytes (reads bytes) refl given

light-kind : (bytes : List ℕ) (m : Message) → Spells bytes m → IsLight m → ¬ (KeepsBytes (number_at 1 1 bytes) (drop 8 bytes))
light-kind bytes (to.Hello version xid) s l k = k.other.0 s.kind_is
light-kind bytes (to.FeaturesRequest xid) s l k = k.other.1.0 s.0.kind_is
light-kind bytes (to.BarrierRequest xid) s l k = k.other.1.1.0 s.0.kind_is
light-kind bytes (to.BarrierReply xid) s l k = k.other.1.1.1.0 s.0.kind_is
light-kind bytes (to.FlowStatsRequest xid pattern table out_port) s l k = k.no_request s.0.kind_is s.1.form_is
light-kind bytes (to.FlowStatsReply xid more entries) s l k = l
light-kind bytes (to.Error xid form code payload) s l k = l
light-kind bytes (to.EchoRequest xid payload) s l k = l
light-kind bytes (to.EchoReply xid payload) s l k = l
light-kind bytes (to.FeaturesReply xid datapath buffers tables capabilities actions ports) s l k = l
light-kind bytes (to.FlowMod xid change) s l k = l
light-kind bytes (to.Other number xid body) s l k = l

pub is-light : (bytes : List ℕ) (m : Message) (r : Result Message WireError) → Spells bytes m → IsLight m → (r ≡ Ok m) ⊎ (r ≡ Err Memory)
    → (r ≡ Err Memory → KeepsBytes (number_at 1 1 bytes) (drop 8 bytes)) → r ≡ Ok m
is-light bytes m r s l (inl e) keeps = e
is-light bytes m r s l (inr e) keeps = absurd (light-kind bytes m s l (keeps e))

-- a call that answers what is spelled, or why not, gives what reading gives
pub is-given : (bytes : List ℕ) (r : Result Message WireError) → IfOk r (λ m. Spells bytes m) → IfErr r (λ e. IsRefusal bytes e) → ReadsAs r (reads bytes)
is-given bytes (Ok m) found told = spelled-read bytes m found
is-given bytes (Err (Fault f)) found told = fault-read bytes f told
is-given bytes (Err Memory) found told = ap is_ok (spelled-read bytes told.0 told.1)
