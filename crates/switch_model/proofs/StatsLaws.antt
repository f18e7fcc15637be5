-- Replies, row by row, and the rows that are picked for them.
use Rattle.std.proofs.Common.{◌≡◌, ℕ, suc, ◌+◌, ◌<◌, ◌≤◌, ◌^◌, Bool, true, false, List, [], ◌∷◌, ◌++◌, length, map, drop, get_or, refl, sym, ap, subst, ◌∙◌, inl, inr, add-one, drop-cons, arith, length-drop}
use Rattle.std.specs.List.{AllByRecursion}
use Rattle.std.specs.List.Sorted.{IsPermutation}
use Rattle.std.proofs.lemmas.List.{append-nil, append_assoc, map-append, nil_from_length}
use Rattle.nk_values.specs.declared.row.Row.{Row}
use Rattle.nk_values.specs.declared.row.FlowMod.{FlowMod}
use Rattle.nk_values.specs.Changes.{IsMeant}
use Rattle.nk_values.specs.Fitting.{actions_len, IsWritable}
use Rattle.nk_values.specs.Members.{IsIn}
use Rattle.nk_values.specs.Tables.{Distinct}
use Rattle.nk_values.proofs.MemberLaws.{in-left, in-right}
use Rattle.openflow_wire.specs.declared.flow_stats.FlowStats.{FlowStats}
use Rattle.openflow_wire.specs.declared.message.Message.{Message}
use Rattle.openflow_wire.specs.declared.message.Message.TheVariants as to
use Rattle.openflow_wire.specs.FlowStats.{entry_len, entries_len, FitsEntry}
use Rattle.openflow_wire.specs.Writing as wire
use Rattle.openflow_wire.specs.KeyOrder.{IsRising}
use Rattle.openflow_wire.proofs.RankLaws.{moved-members}
use Rattle.switch_model.specs.Stats.{entry_of, reply, reply_len, Fits, HasEntryRoom, IsFilled, IsOfTable, AreReplies, AreTold, ArePicked, TellsMore}

-- ---- lengths

entries-more : (es : List FlowStats) (e : FlowStats) → entries_len (es ++ e ∷ []) ≡ entries_len es + entry_len e
entries-more [] e = omega arith
entries-more (x ∷ es) e = let h = entries-more es e in omega (arith, h)

-- ---- one row more

filled-more : (part later : List Row) (r : Row) → IsFilled part later → IsFilled part (later ++ r ∷ [])
filled-more part [] r h = absurd h
filled-more part (x ∷ later) r h = h

abbrev entries_in : Message → List FlowStats
entries_in (to.FlowStatsReply xid more entries) = entries
entries_in m = []

-- the last reply has these entries, and it is the only one
record IsLast (xid : ℕ) (told : List Row) (entries : List FlowStats) : Type 0 where
  are : entries ≡ map entry_of told
  fits : reply_len entries ≤ 65535

last : (xid : ℕ) (told : List Row) (entries : List FlowStats) → AreReplies xid told (to.FlowStatsReply xid false entries ∷ []) → IsLast xid told entries
last xid told entries h = (let e = ap entries_in h.0 in record { are = e; fits = subst (λ (es : List FlowStats). reply_len es ≤ 65535) (sym e) h.1 })

one-more : (told : List Row) (entries : List FlowStats) (r : Row) → entries ≡ map entry_of told → entries ++ entry_of r ∷ [] ≡ map entry_of (told ++ r ∷ [])
one-more told entries r e = ap (λ (es : List FlowStats). es ++ entry_of r ∷ []) e ∙ sym (map-append entry_of told (r ∷ []))

-- a row that the next reply has room for
pub row-fits : (xid : ℕ) (told : List Row) (full : List Message) (entries : List FlowStats) (r : Row) → reply_len entries + entry_len (entry_of r) ≤ 65535
    → AreReplies xid told (full ++ to.FlowStatsReply xid false entries ∷ []) → AreReplies xid (told ++ r ∷ []) (full ++ to.FlowStatsReply xid false (entries ++ entry_of r ∷ []) ∷ [])
row-fits xid told [] entries r le h =
    let l = last xid told entries h in
    let e = one-more told entries r l.are in
    let n = entries-more entries (entry_of r) in
    (ap (λ (es : List FlowStats). to.FlowStatsReply xid false es) e, subst (λ (es : List FlowStats). reply_len es ≤ 65535) e (omega (arith, n, le)))
row-fits xid told (m ∷ []) entries r le h =
    (h.0, h.1 ++ r ∷ [], ap (λ (rs : List Row). rs ++ r ∷ []) h.2 ∙ append_assoc h.0 h.1 (r ∷ []), h.3, h.4, filled-more h.0 h.1 r h.5, row-fits xid h.1 [] entries r le h.6)
row-fits xid told (m ∷ n ∷ ms) entries r le h =
    (h.0, h.1 ++ r ∷ [], ap (λ (rs : List Row). rs ++ r ∷ []) h.2 ∙ append_assoc h.0 h.1 (r ∷ []), h.3, h.4, filled-more h.0 h.1 r h.5, row-fits xid h.1 (n ∷ ms) entries r le h.6)

-- a row that begins one reply more
pub row-begins : (xid : ℕ) (told : List Row) (full : List Message) (entries : List FlowStats) (r : Row) → 65535 < reply_len entries + entry_len (entry_of r) → reply_len (entry_of r ∷ []) ≤ 65535
    → AreReplies xid told (full ++ to.FlowStatsReply xid false entries ∷ [])
    → AreReplies xid (told ++ r ∷ []) ((full ++ to.FlowStatsReply xid true entries ∷ []) ++ to.FlowStatsReply xid false (entry_of r ∷ []) ∷ [])
row-begins xid told [] entries r over fits h =
    let l = last xid told entries h in
    let e = one-more told entries r l.are in
    let n = entries-more entries (entry_of r) in (
      told,
      r ∷ [],
      refl,
      ap (λ (es : List FlowStats). to.FlowStatsReply xid true es) l.are,
      subst (λ (es : List FlowStats). reply_len es ≤ 65535) l.are l.fits,
      subst (λ (es : List FlowStats). 65535 < reply_len es) e (omega (arith, n, over)),
      (refl, fits),
    )
row-begins xid told (m ∷ []) entries r over fits h =
    (h.0, h.1 ++ r ∷ [], ap (λ (rs : List Row). rs ++ r ∷ []) h.2 ∙ append_assoc h.0 h.1 (r ∷ []), h.3, h.4, filled-more h.0 h.1 r h.5, row-begins xid h.1 [] entries r over fits h.6)
row-begins xid told (m ∷ n ∷ ms) entries r over fits h =
    (h.0, h.1 ++ r ∷ [], ap (λ (rs : List Row). rs ++ r ∷ []) h.2 ∙ append_assoc h.0 h.1 (r ∷ []), h.3, h.4, filled-more h.0 h.1 r h.5, row-begins xid h.1 (n ∷ ms) entries r over fits h.6)

-- ---- each reply can be written

entry-fits : (r : Row) → IsWritable r → FitsEntry (entry_of r)
entry-fits r w = record {
  table = omega arith;
  pattern = w.pattern;
  seconds = omega arith;
  nanoseconds = omega arith;
  priority = w.priority;
  idle_timeout = omega arith;
  hard_timeout = omega arith;
  cookie = omega arith;
  packets = omega arith;
  bytes = omega arith;
  actions = w.actions;
}

entries-fit : (rows : List Row) → ((r : Row) → IsIn rows r → IsWritable r) → AllByRecursion FitsEntry (map entry_of rows)
entries-fit [] h = tt
entries-fit (r ∷ rows) h = (entry-fits r (h r (inl refl)), entries-fit rows (λ s m. h s (inr m)))

reply-fits : (xid : ℕ) (more : Bool) (rows : List Row) (m : Message) → xid < 2 ^ 32 → m ≡ reply xid more rows → Fits rows → ((r : Row) → IsIn rows r → IsWritable r) → wire.Fits m
reply-fits xid more rows m x e fits h = subst wire.Fits (sym e) (record {
  version = omega arith;
  kind = omega arith;
  xid = x;
  len = omega (arith, fits);
  body = entries-fit rows h;
})

pub replies-fit : (xid : ℕ) (rows : List Row) (ms : List Message) → xid < 2 ^ 32 → ((r : Row) → IsIn rows r → IsWritable r) → AreReplies xid rows ms → AllByRecursion wire.Fits ms
replies-fit xid rows [] x h a = absurd a
replies-fit xid rows (m ∷ []) x h a = (reply-fits xid false rows m x a.0 a.1 h, tt)
replies-fit xid rows (m ∷ n ∷ ms) x h a =
    let of_part : (r : Row) → IsIn a.0 r → IsWritable r = λ r i. h r (subst (λ (rs : List Row). IsIn rs r) (sym a.2) (in-left a.0 a.1 r i)) in
    let of_later : (r : Row) → IsIn a.1 r → IsWritable r = λ r i. h r (subst (λ (rs : List Row). IsIn rs r) (sym a.2) (in-right a.0 a.1 r i)) in
    (reply-fits xid true a.0 m x a.3 a.4 of_part, replies-fit xid a.1 (n ∷ ms) x of_later a.6)

-- ---- rows that are picked

-- whatever is picked of the rows that are left, put after what was picked so far, is picked of all
abbrev pub GoesOn : FlowMod → List Row → List Row → List Row → Type 0
GoesOn change rows left picked = (later : List Row) → ArePicked change left later → ArePicked change rows (picked ++ later)

pub goes-begun : (change : FlowMod) (rows : List Row) → GoesOn change rows rows []
goes-begun change rows later a = a

pub goes-picked : (change : FlowMod) (rows left picked : List Row) (r : Row) → IsMeant change r → GoesOn change rows (r ∷ left) picked → GoesOn change rows left (picked ++ r ∷ [])
goes-picked change rows left picked r m h later a =
    subst (λ (rs : List Row). ArePicked change rows rs) (sym (append_assoc picked (r ∷ []) later)) (h (r ∷ later) (inl (m, later, refl, a)))

pub goes-past : (change : FlowMod) (rows left picked : List Row) (r : Row) → ¬ IsMeant change r → GoesOn change rows (r ∷ left) picked → GoesOn change rows left picked
goes-past change rows left picked r n h later a = h later (inr (n, a))

pub goes-ended : (change : FlowMod) (rows picked : List Row) → GoesOn change rows [] picked → ArePicked change rows picked
goes-ended change rows picked h = subst (λ (rs : List Row). ArePicked change rows rs) (append-nil picked) (h [] refl)

pub picked-front : (change : FlowMod) (rows picked : List Row) (r : Row) → ArePicked change rows picked → IsIn picked r → IsIn rows r × IsMeant change r
picked-front change [] picked r a i = absurd (subst (λ (rs : List Row). IsIn rs r) a i)
picked-front change (x ∷ rows) picked r (inl a) i = elim (subst (λ (rs : List Row). IsIn rs r) a.2 i) [
  | inl d ↦ (inl d, subst (λ (y : Row). IsMeant change y) d a.0)
  | inr j ↦ let p = picked-front change rows a.1 r a.3 j in (inr p.0, p.1)
]
picked-front change (x ∷ rows) picked r (inr a) i = let p = picked-front change rows picked r a.1 i in (inr p.0, p.1)

pub picked-back : (change : FlowMod) (rows picked : List Row) (r : Row) → ArePicked change rows picked → IsIn rows r → IsMeant change r → IsIn picked r
picked-back change [] picked r a i k = absurd i
picked-back change (x ∷ rows) picked r (inl a) (inl d) k = subst (λ (rs : List Row). IsIn rs r) (sym a.2) (inl d)
picked-back change (x ∷ rows) picked r (inl a) (inr j) k = subst (λ (rs : List Row). IsIn rs r) (sym a.2) (inr (picked-back change rows a.1 r a.3 j k))
picked-back change (x ∷ rows) picked r (inr a) (inl d) k = absurd (a.0 (subst (λ (y : Row). IsMeant change y) (sym d) k))
picked-back change (x ∷ rows) picked r (inr a) (inr j) k = picked-back change rows picked r a.1 j k

pub picked-distinct : (change : FlowMod) (rows picked : List Row) → ArePicked change rows picked → Distinct rows → Distinct picked
picked-distinct change [] picked a d = subst Distinct (sym a) tt
picked-distinct change (x ∷ rows) picked (inl a) d =
    subst Distinct (sym a.2) ((λ s i. d.0 s (picked-front change rows a.1 s a.3 i).0), picked-distinct change rows a.1 a.3 d.1)
picked-distinct change (x ∷ rows) picked (inr a) d = picked-distinct change rows picked a.1 d.1

-- ---- all together

pub told : (rows picked ranked : List Row) (xid table : ℕ) (change : FlowMod) (answer : List Message) → IsOfTable table → ArePicked change rows picked → IsPermutation picked ranked → IsRising ranked
    → AreReplies xid ranked answer → AreTold rows xid table change answer
told rows picked ranked xid table change answer of_table p moved up a =
    let same = moved-members picked ranked moved in
    record {
      told = ranked;
      front = λ r i. (let f = picked-front change rows picked r p (same.front r i) in record { of_table = of_table; among = f.0; meant = f.1 });
      back = λ r t. same.back r (picked-back change rows picked r p t.among t.meant);
      rising = up;
      replies = a;
    }

pub none-told : (rows : List Row) (xid table : ℕ) (change : FlowMod) (answer : List Message) → ¬ IsOfTable table → AreReplies xid [] answer → AreTold rows xid table change answer
none-told rows xid table change answer n a = record {
  told = [];
  front = λ r i. absurd i;
  back = λ r t. n t.of_table;
  rising = tt;
  replies = a;
}

-- ---- one step of a series of replies

pub step-tells : (xid size : ℕ) (full : List Message) (entries : List FlowStats) (r : Row) (now : List Message) (next after : List FlowStats) → size ≡ entry_len (entry_of r) → size ≤ 60088
    → HasEntryRoom xid size full entries now next → after ≡ next ++ entry_of r ∷ [] → TellsMore xid full entries r now after
step-tells xid size full entries r now next after is small (inl h) e told a =
    let same = row-fits xid told full entries r (let le = h.0 in omega (arith, is, le)) a in
    subst (λ (es : List FlowStats). AreReplies xid (told ++ r ∷ []) (now ++ to.FlowStatsReply xid false es ∷ [])) (sym e)
    (subst (λ (es : List FlowStats). AreReplies xid (told ++ r ∷ []) (now ++ to.FlowStatsReply xid false (es ++ entry_of r ∷ []) ∷ [])) (sym h.2)
    (subst (λ (ms : List Message). AreReplies xid (told ++ r ∷ []) (ms ++ to.FlowStatsReply xid false (entries ++ entry_of r ∷ []) ∷ [])) (sym h.1) same))
step-tells xid size full entries r now next after is small (inr h) e told a =
    let more = row-begins xid told full entries r (let lt = h.0 in omega (arith, is, lt)) (omega (arith, is, small)) a in
    subst (λ (es : List FlowStats). AreReplies xid (told ++ r ∷ []) (now ++ to.FlowStatsReply xid false es ∷ [])) (sym e)
    (subst (λ (es : List FlowStats). AreReplies xid (told ++ r ∷ []) (now ++ to.FlowStatsReply xid false (es ++ entry_of r ∷ []) ∷ [])) (sym h.2)
    (subst (λ (ms : List Message). AreReplies xid (told ++ r ∷ []) (ms ++ to.FlowStatsReply xid false (entry_of r ∷ []) ∷ [])) (sym h.1) more))

pub step-len : (xid size len : ℕ) (full : List Message) (entries : List FlowStats) (r : Row) (now : List Message) (next after : List FlowStats) → size ≡ entry_len (entry_of r) → size ≤ 60088
    → HasEntryRoom xid size full entries now next → after ≡ next ++ entry_of r ∷ [] → len ≡ reply_len next → (len + size ≡ reply_len after) × (len + size ≤ 65535)
step-len xid size len full entries r now next after is small h e l = (whole, fits h)
  where
    whole : len + size ≡ reply_len after
    whole = let n = entries-more next (entry_of r) in let k = ap reply_len e in omega (arith, n, k, is, l)

    fits : HasEntryRoom xid size full entries now next → len + size ≤ 65535
    fits (inl a) = let k = ap reply_len a.2 in let le = a.0 in omega (arith, k, le, l)
    fits (inr a) = let k = ap reply_len a.2 in omega (arith, k, l, small)

pub told-few : (rows picked ranked : List Row) (change : FlowMod) → ArePicked change rows picked → IsPermutation picked ranked → ((r : Row) → IsIn rows r → actions_len r.actions ≤ 60000)
    → (r : Row) → IsIn ranked r → actions_len r.actions ≤ 60000
told-few rows picked ranked change p moved few r i = few r (picked-front change rows picked r p ((moved-members picked ranked moved).front r i)).0

pub told-fit : (rows : List Row) (xid table : ℕ) (change : FlowMod) (answer : List Message) → xid < 2 ^ 32 → ((r : Row) → IsIn rows r → IsWritable r) → AreTold rows xid table change answer → AllByRecursion wire.Fits answer
told-fit rows xid table change answer x h t = replies-fit xid t.told answer x (λ r i. h r (t.front r i).among) t.replies

-- ---- one row of those that are gone through

at-index : (xs : List Row) (i : ℕ) (d : Row) → i < length xs → d ≡ get_or xs i d → drop i xs ≡ d ∷ drop (i + 1) xs
at-index xs i d lt e = rw (add-one, drop-cons xs i d lt) (ap (λ (x : Row). x ∷ drop (suc i) xs) (sym e))

pub step-picked : (change : FlowMod) (rows found : List Row) (i : ℕ) (r : Row) → i < length rows → r ≡ get_or rows i r → IsMeant change r → GoesOn change rows (drop i rows) found → GoesOn change rows (drop (i + 1) rows) (found ++ r ∷ [])
step-picked change rows found i r lt e m h = goes-picked change rows (drop (i + 1) rows) found r m (subst (λ (left : List Row). GoesOn change rows left found) (at-index rows i r lt e) h)

pub step-past : (change : FlowMod) (rows found : List Row) (i : ℕ) (r : Row) → i < length rows → r ≡ get_or rows i r → ¬ IsMeant change r → GoesOn change rows (drop i rows) found → GoesOn change rows (drop (i + 1) rows) found
step-past change rows found i r lt e n h = goes-past change rows (drop (i + 1) rows) found r n (subst (λ (left : List Row). GoesOn change rows left found) (at-index rows i r lt e) h)

pub step-ended : (change : FlowMod) (rows found : List Row) (i : ℕ) → length rows ≤ i → GoesOn change rows (drop i rows) found → ArePicked change rows found
step-ended change rows found i le h =
    goes-ended change rows found (subst (λ (left : List Row). GoesOn change rows left found) (nil_from_length (drop i rows) (let l = length-drop i rows in omega arith)) h)
