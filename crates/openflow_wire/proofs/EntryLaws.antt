-- Entries of flow statistics that are read are those that are spelled, and the first fault of entries is told.
use Rattle.std.proofs.Common.{◌≡◌, ◌≢◌, ℕ, zero, suc, ◌+◌, ◌-◌, ◌≤◌, true, List, [], ◌∷◌, ◌++◌, length, drop, take, Result, Ok, Err, refl, sym, ap, subst, ◌∙◌, inl, inr, arith, append_assoc, length-drop, length-take}
use Rattle.std.specs.Prelude.{IsOk, is_ok}
use Rattle.std.proofs.lemmas.Bool.{le-ltb, lt-ltb, cases_lt}
use Rattle.std.proofs.lemmas.List.{append-nil}
use Rattle.nk_values.specs.declared.action.Action.{Action}
use Rattle.nk_values.specs.Fitting.{action_len, actions_len}
use Rattle.openflow_wire.specs.declared.flow_stats.FlowStats.{FlowStats}
use Rattle.openflow_wire.specs.declared.fault.WireFault.{WireFault}
use Rattle.openflow_wire.specs.declared.fault.WireFault.TheVariants.{BadVersion, BadLength, BadAction, BadCommand}
use Rattle.openflow_wire.specs.Places.{number_at}
use Rattle.openflow_wire.specs.ActionLists.{AreActions}
use Rattle.openflow_wire.specs.FlowStats.{IsEntry, AreEntries, HasEntryLength, entry_len}
use Rattle.openflow_wire.specs.Faults.{HasEntryActions, IsFaultBehind, IsEntriesFault}
use Rattle.openflow_wire.specs.declared.fault.WireError.{WireError}
use Rattle.openflow_wire.specs.declared.fault.WireError.TheVariants.{Fault, Memory}
use Rattle.openflow_wire.specs.Reading.{Fails, ◌>>=◌, actions_of, entry_size, entry_with, entry_of, entries_behind, entries_of}
use Rattle.openflow_wire.proofs.TestLaws.{done, ok-is, err, err-is, test, bind-ok}
use Rattle.openflow_wire.proofs.ActionLaws.{actions-again, actions-spelled, actions-case}

actions-len : (actions : List Action) (bytes : List ℕ) → AreActions bytes actions → length bytes ≡ actions_len actions
actions-len [] bytes h = h
actions-len (a ∷ more) bytes h =
    let r = actions-len more (drop (action_len a) bytes) h.1 in let l = length-drop (action_len a) bytes in let w = h.0.within in omega arith

-- ---- one entry: the tests in order, each with what it says

data SizeWay (bytes : List ℕ) : Type 0 where
  wrong : ¬ HasEntryLength bytes → entry_size bytes ≡ Err BadLength → SizeWay bytes
  right : HasEntryLength bytes → entry_size bytes ≡ Ok (number_at 2 0 bytes) → SizeWay bytes

size-way : (bytes : List ℕ) → SizeWay bytes
unfolding entry_size
size-way bytes =
    elim (cases_lt (length bytes) 2) [
      | inl lt ↦ wrong (λ h. let t = h.told in omega arith) (let a = lt-ltb (length bytes) 2 lt in rw a refl)
      | inr told ↦ (let a = le-ltb (length bytes) 2 told in
          elim (cases_lt (number_at 2 0 bytes) 88) [
            | inl lt ↦ wrong (λ h. let t = h.least in omega arith) (let b = lt-ltb (number_at 2 0 bytes) 88 lt in rw (a, b) refl)
            | inr least ↦ (let b = le-ltb (number_at 2 0 bytes) 88 least in
                elim (cases_lt (length bytes) (number_at 2 0 bytes)) [
                  | inl lt ↦ wrong (λ h. let t = h.within in omega arith) (let d = lt-ltb (length bytes) (number_at 2 0 bytes) lt in rw (a, b, d) refl)
                  | inr within ↦ (let d = le-ltb (length bytes) (number_at 2 0 bytes) within in
                      right (record { told = told; least = least; within = within }) (rw (a, b, d) refl))
                ])
          ])
    ]

pub data EntryWay (bytes : List ℕ) : Type 0 where
  bad_size : ¬ HasEntryLength bytes → entry_size bytes ≡ Err BadLength → EntryWay bytes
  bad_actions : (n : ℕ) → HasEntryLength bytes → ¬ HasEntryActions bytes → entry_size bytes ≡ Ok n → entry_of n bytes ≡ Err BadAction → EntryWay bytes
  good : (e : FlowStats) → IsEntry bytes e → entry_size bytes ≡ Ok (entry_len e) → entry_of (entry_len e) bytes ≡ Ok e → EntryWay bytes

-- the bytes of actions in an entry of n bytes
inner-length : (n : ℕ) (bytes : List ℕ) → 88 ≤ n → n ≤ length bytes → length (drop 88 (take n bytes)) ≡ n - 88
inner-length n bytes least within =
    let a = length-drop 88 (take n bytes) in let b = length-take n bytes in omega arith

entry-is : (bytes : List ℕ) (actions : List Action) → HasEntryLength bytes → AreActions (drop 88 (take (number_at 2 0 bytes) bytes)) actions
    → (number_at 2 0 bytes ≡ entry_len (entry_with bytes actions)) × IsEntry bytes (entry_with bytes actions)
entry-is bytes actions has are =
    let n = number_at 2 0 bytes in
    let least = has.least in
    let a = inner-length n bytes has.least has.within in
    let b = actions-len actions (drop 88 (take n bytes)) are in
    let size : n ≡ 88 + actions_len actions = omega arith in (
      size,
      record {
        size = size;
        within = subst (λ (k : ℕ). k ≤ length bytes) size has.within;
        pattern_is = refl;
        priority_is = refl;
        counted = record { table_is = refl; seconds_is = refl; nanoseconds_is = refl; idle_timeout_is = refl; hard_timeout_is = refl; cookie_is = refl; packets_is = refl; bytes_is = refl };
        actions_are = subst (λ (k : ℕ). AreActions (drop 88 (take k bytes)) actions) size are;
      },
    )

entry-read : (n : ℕ) (bytes : List ℕ) (actions : List Action) → actions_of (drop 88 (take n bytes)) ≡ Ok actions → entry_of n bytes ≡ Ok (entry_with bytes actions)
unfolding entry_of
entry-read n bytes actions e = rw e refl

entry-fault : (n : ℕ) (bytes : List ℕ) (f : WireFault) → actions_of (drop 88 (take n bytes)) ≡ Err f → entry_of n bytes ≡ Err f
unfolding entry_of
entry-fault n bytes f e = rw e refl

pub entry-way : (bytes : List ℕ) → EntryWay bytes
entry-way bytes =
    elim (size-way bytes) [
      | wrong lacks s ↦ bad_size lacks s
      | right has s ↦ (let n = number_at 2 0 bytes in
          elim (actions-case (drop 88 (take n bytes))) [
            | inl bad ↦ bad_actions n has (λ h. let again = actions-again (drop 88 (take n bytes)) h.0 h.1 in absurd cc) s (entry-fault n bytes BadAction bad)
            | inr x ↦ (let p = entry-is bytes x.0 has (actions-spelled (drop 88 (take n bytes)) x.0 x.1) in
                good (entry_with bytes x.0) p.1 (s ∙ ap (λ (k : ℕ). done k) p.0)
                (subst (λ (k : ℕ). entry_of k bytes ≡ Ok (entry_with bytes x.0)) p.0 (entry-read n bytes x.0 x.1)))
          ])
    ]

-- what is spelled at the front is read there
size-again : (bytes : List ℕ) (e : FlowStats) → IsEntry bytes e → entry_size bytes ≡ Ok (entry_len e)
unfolding entry_size
size-again bytes e h =
    let w = h.within in
    let s = h.size in
    let a = le-ltb (length bytes) 2 (omega arith) in
    let b = le-ltb (number_at 2 0 bytes) 88 (omega arith) in
    let d = le-ltb (length bytes) (number_at 2 0 bytes) (omega arith) in
    rw (a, b, d) (ap (λ (k : ℕ). done k) s)

with-is : (bytes : List ℕ) (e : FlowStats) → IsEntry bytes e → entry_with bytes e.row.actions ≡ e
with-is bytes e h =
    rw (h.pattern_is, h.priority_is, h.counted.table_is, h.counted.seconds_is, h.counted.nanoseconds_is, h.counted.idle_timeout_is, h.counted.hard_timeout_is, h.counted.cookie_is, h.counted.packets_is, h.counted.bytes_is) refl

entry-again : (bytes : List ℕ) (e : FlowStats) → IsEntry bytes e → entry_of (entry_len e) bytes ≡ Ok e
entry-again bytes e h =
    entry-read (entry_len e) bytes e.row.actions (actions-again (drop 88 (take (entry_len e) bytes)) e.row.actions h.actions_are) ∙ ap (λ (x : FlowStats). done x) (with-is bytes e h)

pub length-of : (bytes : List ℕ) (e : FlowStats) → IsEntry bytes e → HasEntryLength bytes
length-of bytes e is = (let w = is.within in let s = is.size in record { told = omega arith; least = omega arith; within = omega arith })

-- ---- lists

abbrev pub put_first : FlowStats → Result (List FlowStats) WireFault → Result (List FlowStats) WireFault
put_first e r = r >>= λ more. Ok (e ∷ more)

behind-drop : (k : ℕ) (bytes : List ℕ) → k ≤ length bytes → entries_behind k bytes ≡ entries_behind 0 (drop k bytes)
unfolding entries_behind
behind-drop zero bytes le = refl
behind-drop (suc k) [] le = absurd (omega arith)
behind-drop (suc k) (b ∷ bytes) le = behind-drop k bytes (omega arith)

pub one-more : (bytes : List ℕ) (n : ℕ) (e : FlowStats) → 88 ≤ n → n ≤ length bytes → entry_size bytes ≡ Ok n → entry_of n bytes ≡ Ok e
    → entries_behind 0 bytes ≡ put_first e (entries_behind 0 (drop n bytes))
unfolding entries_behind
one-more [] n e least within s r = absurd (omega arith)
one-more (b ∷ bytes) n e least within s r =
    let k : n ≡ suc (n - 1) = omega arith in
    let d : entries_behind (n - 1) bytes ≡ entries_behind 0 (drop n (b ∷ bytes)) =
    behind-drop (n - 1) bytes (omega arith) ∙ ap (λ (i : ℕ). entries_behind 0 (drop i (b ∷ bytes))) (sym k) in
    rw (s, r) (ap (put_first e) d)

pub no-more : (bytes : List ℕ) → length bytes ≡ 0 → entries_behind 0 bytes ≡ Ok []
unfolding entries_behind
no-more [] e = refl
no-more (b ∷ bytes) e = absurd (omega arith)

pub size-fails : (bytes : List ℕ) (f : WireFault) → length bytes ≢ 0 → entry_size bytes ≡ Err f → entries_behind 0 bytes ≡ Err f
unfolding entries_behind
size-fails [] f ne e = absurd (ne refl)
size-fails (b ∷ bytes) f ne e = rw e refl

pub entry-fails : (bytes : List ℕ) (n : ℕ) (f : WireFault) → length bytes ≢ 0 → entry_size bytes ≡ Ok n → entry_of n bytes ≡ Err f → entries_behind 0 bytes ≡ Err f
unfolding entries_behind
entry-fails [] n f ne s e = absurd (ne refl)
entry-fails (b ∷ bytes) n f ne s e = rw (s, e) refl

with-front : (bytes : List ℕ) (e : FlowStats) → IsEntry bytes e → entry_size bytes ≡ Ok (entry_len e) → entry_of (entry_len e) bytes ≡ Ok e
    → entries_behind 0 bytes ≡ put_first e (entries_behind 0 (drop (entry_len e) bytes))
with-front bytes e is s r = one-more bytes (entry_len e) e (omega arith) is.within s r

abbrev pub behind : List ℕ → FlowStats → Result (List FlowStats) WireFault
behind bytes e = entries_behind 0 (drop (entry_len e) bytes)

-- what the others are, where one stands at the front
front-ok : (bytes : List ℕ) (x : FlowStats) (entries : List FlowStats) → IsEntry bytes x → entry_size bytes ≡ Ok (entry_len x) → entry_of (entry_len x) bytes ≡ Ok x
    → entries_behind 0 bytes ≡ Ok entries → (more : List FlowStats) × (behind bytes x ≡ Ok more) × (x ∷ more ≡ entries)
front-ok bytes x entries is s r e =
    let p = bind-ok (behind bytes x) (λ more. done (x ∷ more)) entries (sym (with-front bytes x is s r) ∙ e) in (p.0, p.1, ok-is (x ∷ p.0) entries p.2)

-- what is read is spelled
pub read-entries : (entries : List FlowStats) (bytes : List ℕ) → entries_behind 0 bytes ≡ Ok entries → AreEntries bytes entries
read-entries [] bytes e =
    elim (test (length bytes) 0) [
      | inl t ↦ t.1
      | inr t ↦ elim (entry-way bytes) [
        | bad_size lacks s ↦ absurd (let h = size-fails bytes BadLength t.1 s in cc)
        | bad_actions n has lacks s r ↦ absurd (let h = entry-fails bytes n BadAction t.1 s r in cc)
        | good x is s r ↦ absurd (let p = front-ok bytes x [] is s r e in let q = p.2 in cc)
      ]
    ]
read-entries (y ∷ entries) bytes e =
    elim (test (length bytes) 0) [
      | inl t ↦ absurd (let h = no-more bytes t.1 in cc)
      | inr t ↦ elim (entry-way bytes) [
        | bad_size lacks s ↦ absurd (let h = size-fails bytes BadLength t.1 s in cc)
        | bad_actions n has lacks s r ↦ absurd (let h = entry-fails bytes n BadAction t.1 s r in cc)
        | good x is s r ↦ (let p = front-ok bytes x (y ∷ entries) is s r e in
            let q = p.2 in
            let same : x ≡ y = cc in
            let more : p.0 ≡ entries = cc in
            subst (λ (z : FlowStats). IsEntry bytes z × AreEntries (drop (entry_len z) bytes) entries) same
            (is, read-entries entries (drop (entry_len x) bytes) (p.1 ∙ ap (λ (l : List FlowStats). done l) more)))
      ]
    ]

-- what is spelled is read
pub are-entries : (entries : List FlowStats) (bytes : List ℕ) → AreEntries bytes entries → entries_behind 0 bytes ≡ Ok entries
are-entries [] bytes h = no-more bytes h
are-entries (e ∷ entries) bytes h =
    with-front bytes e h.0 (size-again bytes e h.0) (entry-again bytes e h.0) ∙ ap (put_first e) (are-entries entries (drop (entry_len e) bytes) h.1)

pub entries-spelled : (bytes : List ℕ) (entries : List FlowStats) → entries_of bytes ≡ Ok entries → AreEntries bytes entries
unfolding entries_of
entries-spelled bytes entries e = read-entries entries bytes e

pub entries-again : (bytes : List ℕ) (entries : List FlowStats) → AreEntries bytes entries → entries_of bytes ≡ Ok entries
unfolding entries_of
entries-again bytes entries h = are-entries entries bytes h

-- ---- the first fault

front-err : (x : FlowStats) (r : Result (List FlowStats) WireFault) (f : WireFault) → put_first x r ≡ Err f → r ≡ Err f
front-err x (Ok more) f e = absurd cc
front-err x (Err g) f e = (let h = err-is {A = List FlowStats} g f e in ap (λ (k : WireFault). err k) h)

found : (n : ℕ) (bytes : List ℕ) (f : WireFault) → length bytes ≤ n → entries_behind 0 bytes ≡ Err f → IsEntriesFault bytes f
found zero bytes f le e = absurd (let h = no-more bytes (omega arith) in cc)
found (suc n) bytes f le e =
    elim (test (length bytes) 0) [
      | inl t ↦ absurd (let h = no-more bytes t.1 in cc)
      | inr t ↦ elim (entry-way bytes) [
        | bad_size lacks s ↦ subst (λ (g : WireFault). IsEntriesFault bytes g) (err-is {A = List FlowStats} BadLength f (sym (size-fails bytes BadLength t.1 s) ∙ e)) ([], (t.1, lacks))
        | bad_actions k has lacks s r ↦ subst (λ (g : WireFault). IsEntriesFault bytes g) (err-is {A = List FlowStats} BadAction f (sym (entry-fails bytes k BadAction t.1 s r) ∙ e)) ([], (has, lacks))
        | good x is s r ↦ (let more = found n (drop (entry_len x) bytes) f (let l = length-drop (entry_len x) bytes in omega arith) (front-err x (behind bytes x) f (sym (with-front bytes x is s r) ∙ e)) in
            (x ∷ more.0, (is, more.1)))
      ]
    ]

pub entries-told : (bytes : List ℕ) (f : WireFault) → entries_of bytes ≡ Err f → IsEntriesFault bytes f
unfolding entries_of
entries-told bytes f e = found (length bytes) bytes f (omega arith) e

behind-read : (entries : List FlowStats) (bytes : List ℕ) (f : WireFault) → IsFaultBehind entries bytes f → entries_behind 0 bytes ≡ Err f
behind-read [] bytes BadVersion h = absurd h
behind-read [] bytes BadCommand h = absurd h
behind-read [] bytes BadLength h =
    elim (entry-way bytes) [
      | bad_size lacks s ↦ size-fails bytes BadLength h.0 s
      | bad_actions n has lacks s r ↦ absurd (h.1 has)
      | good x is s r ↦ absurd (h.1 (length-of bytes x is))
    ]
behind-read [] bytes BadAction h =
    let has = h.0 in
    let ne : length bytes ≢ 0 = (λ z. let t = has.told in omega arith) in
    elim (entry-way bytes) [
      | bad_size lacks s ↦ absurd (lacks has)
      | bad_actions n also lacks s r ↦ entry-fails bytes n BadAction ne s r
      | good x is s r ↦ absurd (h.1 (x.row.actions, subst (λ (k : ℕ). AreActions (drop 88 (take k bytes)) x.row.actions) (sym is.size) is.actions_are))
    ]
behind-read (e ∷ entries) bytes f h =
    with-front bytes e h.0 (size-again bytes e h.0) (entry-again bytes e h.0) ∙ ap (put_first e) (behind-read entries (drop (entry_len e) bytes) f h.1)

-- such faults are of lengths and of actions
pub no-version : (entries : List FlowStats) (bytes : List ℕ) → IsFaultBehind entries bytes BadVersion → ⊥
no-version [] bytes h = h
no-version (e ∷ entries) bytes h = no-version entries (drop (entry_len e) bytes) h.1

pub no-command : (entries : List FlowStats) (bytes : List ℕ) → IsFaultBehind entries bytes BadCommand → ⊥
no-command [] bytes h = h
no-command (e ∷ entries) bytes h = no-command entries (drop (entry_len e) bytes) h.1

pub entries-fault : (bytes : List ℕ) (f : WireFault) → IsEntriesFault bytes f → entries_of bytes ≡ Err f
unfolding entries_of
entries-fault bytes f h = behind-read h.0 bytes f h.1

-- ---- the loops

abbrev pub put_all : List FlowStats → Result (List FlowStats) WireFault → Result (List FlowStats) WireFault
put_all front r = r >>= λ more. Ok (front ++ more)

regroup : (front : List FlowStats) (e : FlowStats) (r : Result (List FlowStats) WireFault) → put_all front (put_first e r) ≡ put_all (front ++ e ∷ []) r
regroup front e (Err f) = refl
regroup front e (Ok more) = ap (λ (l : List FlowStats). done l) (sym (append_assoc front (e ∷ []) more))

-- one entry more is read
pub goes_on : (front : List FlowStats) (n : ℕ) (e : FlowStats) (rest : List ℕ) (all : Result (List FlowStats) WireFault) → 88 ≤ n → n ≤ length rest
    → entry_size rest ≡ Ok n → entry_of n rest ≡ Ok e → put_all front (entries_behind 0 rest) ≡ all → put_all (front ++ e ∷ []) (entries_behind 0 (drop n rest)) ≡ all
goes_on front n e rest all least within s r so_far =
    sym (regroup front e (entries_behind 0 (drop n rest))) ∙ ap (put_all front) (sym (one-more rest n e least within s r)) ∙ so_far

put-nil : (front : List FlowStats) → put_all front (done []) ≡ Ok front
put-nil front = ap (λ (l : List FlowStats). done l) (append-nil front)

pub ended : (front : List FlowStats) (rest bytes : List ℕ) → length rest ≡ 0 → put_all front (entries_behind 0 rest) ≡ entries_behind 0 bytes → entries_of bytes ≡ Ok front
unfolding entries_of
ended front rest bytes e so_far = sym so_far ∙ ap (put_all front) (no-more rest e) ∙ put-nil front

pub stops : (front : List FlowStats) (rest bytes : List ℕ) (f : WireFault) → entries_behind 0 rest ≡ Err f → put_all front (entries_behind 0 rest) ≡ entries_behind 0 bytes → entries_of bytes ≡ Err f
unfolding entries_of
stops front rest bytes f e so_far = sym so_far ∙ ap (put_all front) e

-- checking: the fault alone is kept in view
abbrev pub same_fault : Result (List FlowStats) WireFault → Result (List FlowStats) WireFault → Type 0
same_fault r q = (f : WireFault) → (r ≡ Err f → q ≡ Err f) × (q ≡ Err f → r ≡ Err f)

pub checks_on : (n : ℕ) (rest bytes : List ℕ) → 88 ≤ n → n ≤ length rest → entry_size rest ≡ Ok n → IsOk (actions_of (drop 88 (take n rest)))
    → same_fault (entries_behind 0 rest) (entries_behind 0 bytes) → same_fault (entries_behind 0 (drop n rest)) (entries_behind 0 bytes)
checks_on n rest bytes least within s ok so_far =
    elim (actions-case (drop 88 (take n rest))) [
      | inl bad ↦ absurd (let b = bad in cc)
      | inr x ↦ (let e = entry_with rest x.0 in
          let m = one-more rest n e least within s (entry-read n rest x.0 x.1) in
          λ f. (
            λ h. (so_far f).0 (m ∙ ap (put_first e) h),
            λ h. front-err e (entries_behind 0 (drop n rest)) f (sym m ∙ (so_far f).1 h),
          ))
    ]

pub checked : (rest bytes : List ℕ) → length rest ≡ 0 → same_fault (entries_behind 0 rest) (entries_behind 0 bytes) → IsOk (entries_of bytes)
unfolding entries_of
checked rest bytes e so_far = case (entries_behind 0 bytes) refl
  where
    case : (r : Result (List FlowStats) WireFault) → entries_behind 0 bytes ≡ r → is_ok (entries_behind 0 bytes) ≡ true
    case (Ok x) q = rw q refl
    case (Err f) q = absurd (let h = (so_far f).1 q in let g = no-more rest e in cc)

pub checks-size : (rest bytes : List ℕ) (f : WireFault) → length rest ≢ 0 → entry_size rest ≡ Err f → same_fault (entries_behind 0 rest) (entries_behind 0 bytes) → entries_of bytes ≡ Err f
unfolding entries_of
checks-size rest bytes f ne s so_far = (so_far f).0 (size-fails rest f ne s)

pub checks-actions : (n : ℕ) (rest bytes : List ℕ) → length rest ≢ 0 → entry_size rest ≡ Ok n → actions_of (drop 88 (take n rest)) ≡ Err BadAction
    → same_fault (entries_behind 0 rest) (entries_behind 0 bytes) → entries_of bytes ≡ Err BadAction
unfolding entries_of
checks-actions n rest bytes ne s a so_far = (so_far BadAction).0 (entry-fails rest n BadAction ne s (entry-fault n rest BadAction a))

-- reading an entry failed
pub fails_on : (front : List FlowStats) (n : ℕ) (rest bytes : List ℕ) (e : WireError) → length rest ≢ 0 → entry_size rest ≡ Ok n → Fails e (entry_of n rest)
    → IsOk (entries_of bytes) → put_all front (entries_behind 0 rest) ≡ entries_behind 0 bytes → Fails e (entries_of bytes)
fails_on front n rest bytes Memory ne s fails ok so_far = ok
fails_on front n rest bytes (Fault f) ne s fails ok so_far = stops front rest bytes f (entry-fails rest n f ne s fails) so_far
