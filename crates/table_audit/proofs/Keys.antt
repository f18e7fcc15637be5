-- The rows that a phase gives a switch have keys of their own.
use Rattle.std.proofs.Common.{◌≡◌, ◌≢◌, ◌⊎◌, inl, inr, ℕ, zero, suc, pred, ◌-◌, ◌<◌, ◌≤◌, ◌==◌, Bool, true, false, List, [], ◌∷◌, ◌++◌, length, map, take, refl, sym, ◌∙◌, ap, subst, if◌then◌else◌, Option, Some, slice_get, arith}
use Rattle.std.specs.List.{flat_map, filter}
use Rattle.std.proofs.lemmas.Bool.Decides.{Decides-eqb}
use Rattle.nk_values.specs.declared.pattern.Pattern.{Pattern}
use Rattle.nk_values.specs.declared.row.Row.{Row}
use Rattle.nk_values.specs.declared.rows.Band.{Band}
use Rattle.nk_values.specs.declared.rows.Band.TheVariants.{High, Low}
use Rattle.nk_values.specs.declared.rows.PortKind.{PortKind}
use Rattle.nk_values.specs.declared.rows.PortKind.TheVariants.{Edge, Linked}
use Rattle.nk_values.specs.declared.rows.Rows.{Rows}
use Rattle.nk_values.specs.Members.{IsIn, Pairs, EachOnce}
use Rattle.nk_values.specs.Tables.{SameKey, Distinct}
use Rattle.nk_values.proofs.MemberLaws.{in-map, from-map, in-either}
use Rattle.nk_values.proofs.PairLaws.{pairs-append, pairs-map, pairs-weaker, pairs-flat_map}
use Rattle.topology_model.specs.Network.{Location}
use Rattle.topology_model.specs.declared.line.DeclaredSwitch.{DeclaredSwitch}
use Rattle.topology_model.specs.Layouts.{Layout, location_of, locations_at}
use Rattle.topology_model.specs.Wired.{IsSound, IsTopology}
use Rattle.policy_rows.specs.declared.version.Version.{Version}
use Rattle.policy_rows.specs.Means.{Ranked, kind_at}
use Rattle.update_coordinator.specs.Batches.{held, version_at as rows_at_version}
use Rattle.update_laws.specs.Updates.{Setting, IsSetting, spot, Phase, Opening, Idle, Install, Flip, Drain, Clean, Tidy, Sweep, Within}
use Rattle.update_laws.specs.Settings.{ports_in, version_at, rows_in, odd, band_by, setting_of, AreVersions}
use Rattle.update_laws.proofs.Made.{made, from-kept}
use Rattle.update_laws.proofs.Origins.{Span, Near, IsApart, span, apart-within, zero-or, next-near, Belongs, PortAt, top_at, means, no-tie}
use Rattle.update_laws.proofs.Overlays.{ranked-between, in-take}
use Rattle.update_laws.proofs.Phases.{From, inner-outer, inner-one, outer-outer, in-none}
use Rattle.table_audit.proofs.Parts.{first, all_but, part_of, cut, cut-in, no-more, have, parts-are, from-part}

-- the second has another key
abbrev pub Apart : Row → Row → Type 0
Apart r s = ¬ SameKey s r.pattern r.priority

pub as-distinct : (rows : List Row) → Pairs Apart rows → Distinct rows
as-distinct [] h = tt
as-distinct (r ∷ rows) h = (h.0, as-distinct rows h.1)

-- ---- of one port

ranked-apart : (top : ℕ) (rows : List Row) → Ranked top rows → Pairs Apart rows
ranked-apart top [] k = tt
ranked-apart top (r ∷ rows) k = (
  (λ s m e. let h = (ranked-between (top - 1) rows s k.2 m).0 in let same = e.same_priority in let first = k.0 in let some = k.1 in omega (arith, h, first, some, same)),
  ranked-apart (top - 1) rows k.2,
)

apart-take : (n : ℕ) (rows : List Row) → Pairs Apart rows → Pairs Apart (take n rows)
apart-take zero rows h = tt
apart-take (suc n) [] h = tt
apart-take (suc n) (r ∷ rows) h = ((λ s m. h.0 s (in-take n rows s m)), apart-take n rows h.1)

cut-apart : (part : ℕ → ℕ) (band : Band) (kind : PortKind) (rows : List Row) → Pairs Apart rows → Pairs Apart (cut part band kind rows)
cut-apart part High Edge rows h = apart-take (part (length rows)) rows h
cut-apart part High Linked rows h = subst (λ (rs : List Row). Pairs Apart rs) (sym (no-more (part 0) rows)) h
cut-apart part Low kind rows h = subst (λ (rs : List Row). Pairs Apart rs) (sym (no-more (part 0) rows)) h

-- ---- the ports of a switch, each once

from-mapped : {X Y : Type 0} (f : X → Y) (xs : List X) → EachOnce (map f xs) → Pairs (λ x z. f x ≢ f z) xs
from-mapped f [] h = tt
from-mapped f (x ∷ xs) h = ((λ z m. h.0 (f z) (in-map f xs z m)), from-mapped f xs h.1)

at-site : (s : DeclaredSwitch) (a : Location) → IsIn (locations_at s) a → a.sw ≡ s.sw
at-site s a m = let r = from-map (λ n. location_of (s.sw, n)) s.ports a m in ap (λ (b : Location). b.sw) (sym r.2)

pub places-once : (t : Layout) → IsSound t → EachOnce (flat_map locations_at t.switches)
places-once t k = pairs-flat_map locations_at (λ a b. a.sw ≢ b.sw) (λ a b. a ≢ b) t.switches (from-mapped (λ (s : DeclaredSwitch). s.sw) t.switches k.differ)
    (λ s m. pairs-map (λ n. location_of (s.sw, n)) (λ a b. a ≢ b) s.ports
    (pairs-weaker (λ m n. m ≢ n) (λ m n. location_of (s.sw, m) ≢ location_of (s.sw, n)) s.ports (λ m n i j differ same. differ (ap (λ (a : Location). a.pt) same)) (k.sites s m).differ))
    (λ a b x y m n differ i j same. differ (sym (at-site a x i) ∙ ap (λ (p : Location). p.sw) same ∙ at-site b y j))

from-ports : (sw n : ℕ) (places : List Location) → IsIn (ports_in places sw) n → IsIn places (spot sw n)
from-ports sw n [] m = absurd m
from-ports sw n (a ∷ as') m = split (λ k. from-ports sw n as' k) (a.sw == sw) refl m
  where
    split : (IsIn (ports_in as' sw) n → IsIn as' (spot sw n)) → (b : Bool) → (a.sw == sw) ≡ b → IsIn (map (λ x. x.pt) (if b then a ∷ filter (λ x. x.sw == sw) as' else filter (λ x. x.sw == sw) as')) n → IsIn (a ∷ as') (spot sw n)
    split later true d (inl e) = inl (λ i. record { sw = (Decides-eqb a.sw sw).0 d i; pt = e i })
    split later true d (inr k) = inr (later k)
    split later false d k = inr (later k)

-- some of them are once too
pub kept-once : {X : Type 0} (p : X → Bool) (xs : List X) → EachOnce xs → EachOnce (filter p xs)
kept-once p [] h = tt
kept-once {X} p (x ∷ xs) h = split (p x) refl (kept-once p xs h.1)
  where
    split : (b : Bool) → p x ≡ b → EachOnce (filter p xs) → EachOnce (if p x then x ∷ filter p xs else filter p xs)
    split true d k = rw d ((λ y m. h.0 y (from-kept p xs y m).0), k)
    split false d k = rw d k

pub ports-once : (sw : ℕ) (places : List Location) → EachOnce places → EachOnce (ports_in places sw)
ports-once sw [] h = tt
ports-once sw (a ∷ as') h = split (a.sw == sw) refl (ports-once sw as' h.1)
  where
    split : (b : Bool) → (a.sw == sw) ≡ b → EachOnce (ports_in as' sw) → EachOnce (map (λ x. x.pt) (if b then a ∷ filter (λ x. x.sw == sw) as' else filter (λ x. x.sw == sw) as'))
    split true d k = ((λ n m e. h.0 (spot sw n) (from-ports sw n as' m) (λ i. record { sw = (Decides-eqb a.sw sw).0 d i; pt = e i })), k)
    split false d k = k

-- ---- of one policy

-- what a row of a port tells of it
linked-or-edge : (c : Setting) → IsSetting c → (sw pt : ℕ) → IsIn (c.ports sw) pt → (link : Bool) × PortAt link c sw pt
linked-or-edge c q sw pt m = elim (q.ports sw pt m) [ inl l ↦ (true, l) | inr l ↦ (false, l) ]

pub port-apart : (c : Setting) → IsSetting c → (v sw pt : ℕ) → IsIn (c.ports sw) pt → Pairs Apart (c.rows_at v (spot sw pt))
port-apart c q v sw pt m = of (c.rows_at v (spot sw pt)) refl
  where
    of : (rows : List Row) → c.rows_at v (spot sw pt) ≡ rows → Pairs Apart rows
    of [] e = tt
    of (r ∷ rows) e =
        let l = linked-or-edge c q sw pt m in
        let held = subst (λ (rs : List Row). IsIn rs r) (sym e) (inl refl) in
        ranked-apart (top_at l.0 (c.high v)) (r ∷ rows) (subst (λ (rs : List Row). Ranked (top_at l.0 (c.high v)) rs) e (means c q v sw pt l.0 r l.1 held).0.ranked)

pub in-port : (c : Setting) → IsSetting c → (v sw pt : ℕ) (r : Row) → IsIn (c.ports sw) pt → IsIn (c.rows_at v (spot sw pt)) r → r.pattern.in_port ≡ Some pt
in-port c q v sw pt r m held = let l = linked-or-edge c q sw pt m in ((means c q v sw pt l.0 r l.1 held).0.fixed r held).in_port

some-is : (m n : ℕ) → Some m ≡ Some n → m ≡ n
some-is m n e = cc

part-apart : (t : Layout) (vs : List Version) (limit capacity : ℕ) (overlap : Option ℕ) → IsTopology t → AreVersions t vs overlap → (part : ℕ → ℕ) (v sw : ℕ) → Pairs Apart (have vs part v sw)
part-apart t vs limit capacity overlap k a part v sw =
    subst (λ (rs : List Row). Pairs Apart rs) (sym (parts-are t vs overlap k a part v sw))
    (pairs-flat_map at_port (λ m n. m ≢ n) Apart (c.ports sw) (ports-once sw (flat_map locations_at t.switches) (places-once t k.sound))
    (λ pt m. cut-apart part (band_by (odd v)) (kind_at t (spot sw pt)) (c.rows_at v (spot sw pt)) (port-apart c q v sw pt m))
    (λ b d r s m n differ i j same. differ (some-is b d
    (sym (in-port c q v sw b r m (cut-in part (band_by (odd v)) (kind_at t (spot sw b)) (c.rows_at v (spot sw b)) r i))
    ∙ sym (ap (λ (p : Pattern). p.in_port) same.same_pattern)
    ∙ in-port c q v sw d s n (cut-in part (band_by (odd v)) (kind_at t (spot sw d)) (c.rows_at v (spot sw d)) s j)))))
  where
    c : Setting
    c = setting_of t vs limit capacity overlap

    q : IsSetting c
    q = made t vs limit capacity overlap k a

    at_port : ℕ → List Row
    at_port b = cut part (band_by (odd v)) (kind_at t (spot sw b)) (c.rows_at v (spot sw b))

-- ---- of two policies

-- no row is of both
never-both : (c : Setting) → IsSetting c → (n : Span) (u v sw : ℕ) (r : Row) (l m : Bool) → IsApart c n → Near l n u → Near m n v → u ≢ v → From c u sw l r → From c v sw m r → ⊥
never-both c q n u v sw r true true w a b differ x y = differ (inner-one c q n u v sw r w a b x y)
never-both c q n u v sw r true false w a b differ x y = inner-outer c q u v sw r x y
never-both c q n u v sw r false true w a b differ x y = inner-outer c q v u sw r y x
never-both c q n u v sw r false false w a b differ x y = elim a [
  | inl d ↦ elim b [
    | inl e ↦ differ (d ∙ sym e)
    | inr e ↦ outer-outer c q n.old sw r (subst (λ (z : ℕ). From c z sw false r) d x) (subst (λ (z : ℕ). From c z sw false r) e y)
  ]
  | inr d ↦ elim b [
    | inl e ↦ outer-outer c q n.old sw r (subst (λ (z : ℕ). From c z sw false r) e y) (subst (λ (z : ℕ). From c z sw false r) d x)
    | inr e ↦ differ (d ∙ sym e)
  ]
]

belongs-to : (c : Setting) (n : Span) (v sw : ℕ) (link : Bool) (r : Row) → Near link n v → From c v sw link r → Belongs c n sw r
belongs-to c n v sw link r near x = record { version = v; pt = x.pt; link = link; near = near; port = x.port; held = x.held }

-- rows of two versions of a phase
pub rows-apart : (c : Setting) → IsSetting c → (n : Span) (u v sw : ℕ) (r s : Row) (l m : Bool) → IsApart c n → Near l n u → Near m n v → u ≢ v → From c u sw l r → From c v sw m s → Apart r s
rows-apart c q n u v sw r s l m w a b differ x y same =
    let one = no-tie c q n sw r s w (belongs-to c n u sw l r a x) (belongs-to c n v sw m s b y)
    (sym (ap (λ (p : Pattern). p.in_port) same.same_pattern)) (sym (ap (λ (p : Pattern). p.dl_vlan) same.same_pattern)) (sym same.same_priority) in
    never-both c q n u v sw s l m w a b differ (subst (λ (z : Row). From c u sw l z) one x) y

-- a row of the current policy or of its neighbour in a phase
pub record Given (c : Setting) (n : Span) (v sw : ℕ) (r : Row) : Type 0 where
  pub link : Bool
  pub from : From c v sw link r
  pub near : Near link n v

-- version 0 has no rows
near-by : (c : Setting) → IsSetting c → (n : Span) (v sw : ℕ) (r : Row) (link : Bool) → (v ≡ n.old) ⊎ (v ≡ suc n.old) → (v ≡ 0) ⊎ ((n.swept < v) × (v ≤ n.last)) → From c v sw link r → Near link n v
near-by c q n v sw r true a b x = elim b [ inl e ↦ absurd (in-none c q sw true r (subst (λ (z : ℕ). From c z sw true r) e x)) | inr d ↦ d ]
near-by c q n v sw r false a b x = a

pub given-by : (t : Layout) (vs : List Version) (limit capacity : ℕ) (overlap : Option ℕ) → IsTopology t → AreVersions t vs overlap → (n : Span) (part : ℕ → ℕ) (v sw : ℕ) (r : Row) → (v ≡ n.old) ⊎ (v ≡ suc n.old) → (v ≡ 0) ⊎ ((n.swept < v) × (v ≤ n.last)) →
    IsIn (have vs part v sw) r → Given (setting_of t vs limit capacity overlap) n v sw r
given-by t vs limit capacity overlap k a n part v sw r old new m =
    let x = from-part t vs limit capacity overlap k a part v sw r m in
    record { link = x.0; from = x.1; near = near-by (setting_of t vs limit capacity overlap) (made t vs limit capacity overlap k a) n v sw r x.0 old new x.1 }

both-apart : (t : Layout) (vs : List Version) (limit capacity : ℕ) (overlap : Option ℕ) → IsTopology t → AreVersions t vs overlap → (n : Span) → IsApart (setting_of t vs limit capacity overlap) n → (n.old ≡ 0) ⊎ ((n.swept < n.old) × (n.old ≤ n.last)) →
    (n.swept < suc n.old) × (suc n.old ≤ n.last) → (old new : ℕ → ℕ) (sw : ℕ) → Pairs Apart (have vs old n.old sw ++ have vs new (suc n.old) sw)
both-apart t vs limit capacity overlap k a n w first second old new sw =
    pairs-append Apart (have vs old n.old sw) (have vs new (suc n.old) sw) (part-apart t vs limit capacity overlap k a old n.old sw) (part-apart t vs limit capacity overlap k a new (suc n.old) sw) (λ r s m i.
    let x = given-by t vs limit capacity overlap k a n old n.old sw r (inl refl) first m in
    let y = given-by t vs limit capacity overlap k a n new (suc n.old) sw s (inr refl) (inr second) i in
    rows-apart (setting_of t vs limit capacity overlap) (made t vs limit capacity overlap k a) n n.old (suc n.old) sw r s x.link y.link w x.near y.near (λ e. omega (arith, e)) x.from y.from)

-- ---- of a phase

-- the rows that it gives a switch, by its two policies, beside those of policies that drain
abbrev pub gives : List Version → Phase → ℕ → List Row
gives vs Opening sw = []
gives vs (Idle v) sw = have vs (all_but 0) v sw
gives vs (Install i) sw = have vs (all_but 0) (pred i) sw ++ have vs (first 0) (suc (pred i)) sw
gives vs (Flip i k) sw = have vs (all_but k) (pred i) sw ++ have vs (first k) (suc (pred i)) sw
gives vs (Drain i) sw = have vs (first 0) (pred i) sw ++ have vs (all_but 0) (suc (pred i)) sw
gives vs (Clean i) sw = have vs (all_but 0) (suc (pred i)) sw
gives vs (Tidy i) sw = have vs (all_but 0) (suc (pred i)) sw
gives vs (Sweep i v) sw = have vs (all_but 0) i sw

version-is : (vs : List Version) (v : ℕ) → rows_at_version (map (λ (x : Version). x.rows) vs) v ≡ rows_in (version_at vs v)
version-is vs zero = refl
version-is vs (suc k) = got vs k
  where
    got : (xs : List Version) (n : ℕ) → slice_get (map (λ (x : Version). x.rows) xs) n ≡ rows_in (slice_get xs n)
    got [] n = refl
    got (x ∷ xs) zero = refl
    got (x ∷ xs) (suc n) = got xs n

part-is : (vs : List Version) (part : ℕ → ℕ) (u v sw : ℕ) → u ≡ v → part_of part (rows_at_version (map (λ (x : Version). x.rows) vs) u) sw ≡ have vs part v sw
part-is vs part u v sw e = ap (λ (n : ℕ). part_of part (rows_at_version (map (λ (x : Version). x.rows) vs) n) sw) e ∙ ap (λ (o : Option Rows). part_of part o sw) (version-is vs v)

two-are : (a b c d : List Row) → a ≡ c → b ≡ d → a ++ b ≡ c ++ d
two-are a b c d e f = λ i. e i ++ f i

-- these are the coordinator's
old-is : (i : ℕ) → 1 ≤ i → i - 1 ≡ pred i
old-is i l = omega arith

new-is : (i : ℕ) → 1 ≤ i → i ≡ suc (pred i)
new-is i l = omega (arith, l)

pub held-is : (c : Setting) (vs : List Version) (swept : ℕ) (ph : Phase) → Within c swept ph → (sw : ℕ) → held (map (λ (x : Version). x.rows) vs) ph sw ≡ gives vs ph sw
held-is c vs swept Opening n sw = refl
held-is c vs swept (Idle v) n sw = part-is vs (all_but 0) v v sw refl
held-is c vs swept (Install i) n sw = two-are _ _ _ _ (part-is vs (all_but 0) (i - 1) (pred i) sw (old-is i n.some)) (part-is vs (first 0) i (suc (pred i)) sw (new-is i n.some))
held-is c vs swept (Flip i k) n sw = two-are _ _ _ _ (part-is vs (all_but k) (i - 1) (pred i) sw (old-is i n.0.some)) (part-is vs (first k) i (suc (pred i)) sw (new-is i n.0.some))
held-is c vs swept (Drain i) n sw = two-are _ _ _ _ (part-is vs (first 0) (i - 1) (pred i) sw (old-is i n.0.some)) (part-is vs (all_but 0) i (suc (pred i)) sw (new-is i n.0.some))
held-is c vs swept (Clean i) n sw = part-is vs (all_but 0) i (suc (pred i)) sw (new-is i n.0.some)
held-is c vs swept (Tidy i) n sw = part-is vs (all_but 0) i (suc (pred i)) sw (new-is i n.0.some)
held-is c vs swept (Sweep i v) n sw = part-is vs (all_but 0) i i sw refl

-- the version of an idle phase is not swept
pub idle-near : (i swept : ℕ) → swept ≤ i - 1 → (i ≡ 0) ⊎ ((swept < i) × (i ≤ i))
idle-near zero swept l = inl refl
idle-near (suc o) swept l = inr (omega (arith, l), omega arith)

pub sweep-near : (i v swept : ℕ) → v ≡ suc swept → v < i → (i ≡ 0) ⊎ ((swept < i) × (i ≤ i))
sweep-near i v swept e l = inr (omega (arith, e, l), omega arith)

pub gives-apart : (t : Layout) (vs : List Version) (limit capacity : ℕ) (overlap : Option ℕ) → IsTopology t → AreVersions t vs overlap → (swept : ℕ) (ph : Phase) → Within (setting_of t vs limit capacity overlap) swept ph → (sw : ℕ) → Pairs Apart (gives vs ph sw)
gives-apart t vs limit capacity overlap k a swept Opening n sw = tt
gives-apart t vs limit capacity overlap k a swept (Idle v) n sw = part-apart t vs limit capacity overlap k a (all_but 0) v sw
gives-apart t vs limit capacity overlap k a swept (Install i) n sw =
    both-apart t vs limit capacity overlap k a (span swept (Install i)) (apart-within (setting_of t vs limit capacity overlap) swept (Install i) n) (zero-or i swept n.some n.kept) (next-near i swept n.some n.kept) (all_but 0) (first 0) sw
gives-apart t vs limit capacity overlap k a swept (Flip i m) n sw =
    both-apart t vs limit capacity overlap k a (span swept (Flip i m)) (apart-within (setting_of t vs limit capacity overlap) swept (Flip i m) n) (zero-or i swept n.0.some n.0.kept) (next-near i swept n.0.some n.0.kept) (all_but m) (first m) sw
gives-apart t vs limit capacity overlap k a swept (Drain i) n sw =
    both-apart t vs limit capacity overlap k a (span swept (Drain i)) (apart-within (setting_of t vs limit capacity overlap) swept (Drain i) n) (zero-or i swept n.0.some n.0.kept) (next-near i swept n.0.some n.0.kept) (first 0) (all_but 0) sw
gives-apart t vs limit capacity overlap k a swept (Clean i) n sw = part-apart t vs limit capacity overlap k a (all_but 0) (suc (pred i)) sw
gives-apart t vs limit capacity overlap k a swept (Tidy i) n sw = part-apart t vs limit capacity overlap k a (all_but 0) (suc (pred i)) sw
gives-apart t vs limit capacity overlap k a swept (Sweep i v) n sw = part-apart t vs limit capacity overlap k a (all_but 0) i sw

-- of which version such a row is
pub record GivenRow (c : Setting) (n : Span) (newest sw : ℕ) (r : Row) : Type 0 where
  pub version : ℕ
  pub above : newest ≤ version
  pub given : Given c n version sw r

given-row : {c : Setting} {n : Span} {sw : ℕ} {r : Row} (newest v : ℕ) → newest ≤ v → Given c n v sw r → GivenRow c n newest sw r
given-row newest v l g = record { version = v; above = l; given = g }

-- the oldest of the policies that `gives` takes
abbrev pub from_of : Phase → ℕ
from_of Opening = 0
from_of (Idle v) = v
from_of (Install i) = pred i
from_of (Flip i k) = pred i
from_of (Drain i) = pred i
from_of (Clean i) = i
from_of (Tidy i) = i
from_of (Sweep i v) = i

pub from-gives : (t : Layout) (vs : List Version) (limit capacity : ℕ) (overlap : Option ℕ) → IsTopology t → AreVersions t vs overlap → (swept : ℕ) (ph : Phase) → Within (setting_of t vs limit capacity overlap) swept ph → (sw : ℕ) (r : Row) → IsIn (gives vs ph sw) r →
    GivenRow (setting_of t vs limit capacity overlap) (span swept ph) (from_of ph) sw r
from-gives t vs limit capacity overlap k a swept ph w sw r m = by_phase ph w m
  where
    c : Setting
    c = setting_of t vs limit capacity overlap

    one : (n : Span) (part : ℕ → ℕ) (newest v : ℕ) → newest ≤ v → (v ≡ n.old) ⊎ (v ≡ suc n.old) → (v ≡ 0) ⊎ ((n.swept < v) × (v ≤ n.last)) → IsIn (have vs part v sw) r → GivenRow (setting_of t vs limit capacity overlap) n newest sw r
    one n part newest v l x y m = given-row newest v l (given-by t vs limit capacity overlap k a n part v sw r x y m)

    both : (n : Span) (old new : ℕ → ℕ) → (n.old ≡ 0) ⊎ ((n.swept < n.old) × (n.old ≤ n.last)) → (n.swept < suc n.old) × (suc n.old ≤ n.last) → IsIn (have vs old n.old sw ++ have vs new (suc n.old) sw) r → GivenRow (setting_of t vs limit capacity overlap) n n.old sw r
    both n old new x y m = elim (in-either (have vs old n.old sw) (have vs new (suc n.old) sw) r m) [
      | inl i ↦ one n old n.old n.old (omega arith) (inl refl) x i
      | inr i ↦ one n new n.old (suc n.old) (omega arith) (inr refl) (inr y) i
    ]

    above : (i : ℕ) → 1 ≤ i → i ≤ suc (pred i)
    above i l = omega (arith, l)

    by_phase : (p : Phase) → Within (setting_of t vs limit capacity overlap) swept p → IsIn (gives vs p sw) r → GivenRow (setting_of t vs limit capacity overlap) (span swept p) (from_of p) sw r
    by_phase Opening n m = absurd m
    by_phase (Idle v) n m = one (span swept (Idle v)) (all_but 0) v v (omega arith) (inl refl) (idle-near v swept n.kept) m
    by_phase (Install i) n m = both (span swept (Install i)) (all_but 0) (first 0) (zero-or i swept n.some n.kept) (next-near i swept n.some n.kept) m
    by_phase (Flip i j) n m = both (span swept (Flip i j)) (all_but j) (first j) (zero-or i swept n.0.some n.0.kept) (next-near i swept n.0.some n.0.kept) m
    by_phase (Drain i) n m = both (span swept (Drain i)) (first 0) (all_but 0) (zero-or i swept n.0.some n.0.kept) (next-near i swept n.0.some n.0.kept) m
    by_phase (Clean i) n m = one (span swept (Clean i)) (all_but 0) i (suc (pred i)) (above i n.0.some) (inr refl) (inr (next-near i swept n.0.some n.0.kept)) m
    by_phase (Tidy i) n m = one (span swept (Tidy i)) (all_but 0) i (suc (pred i)) (above i n.0.some) (inr refl) (inr (next-near i swept n.0.some n.0.kept)) m
    by_phase (Sweep i v) n m = one (span swept (Sweep i v)) (all_but 0) i i (omega arith) (inl refl) (sweep-near i v swept n.1 n.2) m
