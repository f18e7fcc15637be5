-- Orders of rows, and where a search may begin.
use Rattle.std.proofs.Common.{◌≡◌, ◌≢◌, ℕ, zero, suc, ◌-◌, ◌<◌, ◌≤◌, ◌/◌, ◌^◌, true, false, Bool, List, [], ◌∷◌, ◌++◌, length, get_or, ltb, ne_eqb, ◌==◌, inl, inr, refl, sym, ◌∙◌, ap, subst, Option, Some, None, arith, if◌then◌else◌, length-append}
use Rattle.std.proofs.lemmas.Bool.{and_left as left, and_right as right}
use Rattle.std.proofs.lemmas.Bool.{cases_lt}
use Rattle.std.proofs.lemmas.Bool.Decides.{Decides-eqb, nat_tests}
use Rattle.std.specs.List.Sorted.{IsPartitionPoint}
use Rattle.nk_values.specs.declared.packet.Header.{Header}
use Rattle.nk_values.specs.declared.pattern.Pattern.{Pattern}
use Rattle.nk_values.specs.declared.pattern.Prefix.{Prefix}
use Rattle.nk_values.specs.declared.row.Row.{Row}
use Rattle.nk_values.specs.declared.rows.PortRows.{PortRows}
use Rattle.nk_values.specs.Patterns.{Incoming, hits, fits, covers}
use Rattle.nk_values.specs.Tables.{first}
use Rattle.packet_tracer.specs.declared.order.Destination.{Destination}
use Rattle.packet_tracer.specs.declared.order.Destination.TheVariants.{Frame, Network}
use Rattle.packet_tracer.specs.declared.order.Order.{Order}
use Rattle.packet_tracer.specs.Orders.{fixed, whole, number_in, AreFixed, AreLeading, IsOrder, IsStart, AreOrders}

-- ---- a row that fixes a destination to another number than the packet's

frame_misses : (o : Option ℕ) (n m : ℕ) → o ≡ Some n → m ≢ n → fits o m ≡ false
frame_misses o n m e d = ap (λ x. fits x m) e ∙ ne_eqb n m (λ q. d (sym q))

network_misses : (o : Option Prefix) (n m : ℕ) → whole o ≡ Some n → m ≢ n → covers o m ≡ false
network_misses None n m e d = absurd (let none : None ≡ Some n = e in cc)
network_misses (Some p) n m e d = split (p.length == 32) refl e
  where
    at_length : (l : ℕ) → l ≡ 32 → p.address ≡ n → (p.address / 2 ^ (32 - l) == m / 2 ^ (32 - l)) ≡ false
    at_length l q a = subst (λ (k : ℕ). (p.address / 2 ^ (32 - k) == m / 2 ^ (32 - k)) ≡ false) (sym q)
        (ne_eqb (p.address / 1) (m / 1) (λ (w : p.address / 1 ≡ m / 1). d (omega (arith, w, a))))

    split : (b : Bool) → (p.length == 32) ≡ b → (if b then Some p.address else None) ≡ Some n → covers (Some p) m ≡ false
    split true q w = at_length p.length ((Decides-eqb p.length 32).0 q) (let a : p.address ≡ n = cc in a)
    split false q w = absurd (let none : None ≡ Some n = w in cc)

misses : (d : Destination) (p : Pattern) (n : ℕ) (i : Incoming) → fixed d p ≡ Some n → number_in d i.header ≢ n → hits p i ≡ false
misses Frame p n i e d = left _ _ (left _ _ (left _ _ (left _ _ (right _ _ (frame_misses p.dl_dst n i.header.eth_dst e d)))))
misses Network p n i e d = right _ _ (left _ _ (left _ _ (right _ _ (network_misses p.nw_dst n i.header.ip4_dst e d))))

past : (i : Incoming) (r : Row) (rs : List Row) → hits r.pattern i ≡ false → first i rs ≡ first i (r ∷ rs)
past i r rs e = sym (ap (λ (b : Bool). if b then Some r else first i rs) e)

-- ---- where a search may begin

-- none of the leading rows has the packet's number
pub skipped : (d : Destination) (h : Header) (k : ℕ) (rows : List Row) (ns : List ℕ) → AreFixed d rows ns → k ≤ length ns → ((j : ℕ) → j < k → get_or ns j 0 ≢ number_in d h) → IsStart rows h k
skipped d h zero rows ns a l other = record { within = omega arith; first_is = λ i e. refl }
skipped d h (suc k) rows [] a l other = absurd (omega (arith, l))
skipped d h (suc k) [] (n ∷ ns) a l other = absurd a
skipped d h (suc k) (r ∷ rs) (n ∷ ns) a l other =
    let more = skipped d h k rs ns a.1 (omega (arith, l)) (λ j w. other (suc j) (omega (arith, w))) in
    record {
      within = omega (arith, more.within);
      first_is = λ i e. more.first_is i e ∙ past i r rs (misses d r.pattern n i a.0 (λ q. other 0 (omega arith) (sym q ∙ ap (number_in d) e)));
    }

-- what a search tells of numbers that ascend: those before are less, and the others are not
pub at_point : (d : Destination) (h : Header) (rows : List Row) (ns : List ℕ) (k : ℕ) → AreFixed d rows ns → k ≤ length ns →
    IsPartitionPoint (λ y. ltb y (number_in d h) ≡ true) (λ y. ltb y (number_in d h) ≡ false) ns k → IsStart rows h k
at_point d h rows ns k a l point = skipped d h k rows ns a l (λ j w e. let less = point.0 j 0 (omega arith) w in grind (arith, nat_tests, less, e))

-- if the next one is another, none is the packet's
pub at_gap : (d : Destination) (h : Header) (rows : List Row) (ns : List ℕ) (k : ℕ) → AreLeading d rows ns → k < length ns →
    IsPartitionPoint (λ y. ltb y (number_in d h) ≡ true) (λ y. ltb y (number_in d h) ≡ false) ns k → get_or ns k 0 ≢ number_in d h → IsStart rows h (length ns)
at_gap d h rows ns k a l point other = skipped d h (length ns) rows ns a.are_fixed (omega arith) (λ j w e. elim (cases_lt j k) [
  | inl before ↦ let less = point.0 j 0 (omega arith) before in grind (arith, nat_tests, less, e)
  | inr behind ↦
      let more = point.1 k 0 (omega arith) l in
      let most : number_in d h ≤ get_or ns k 0 = grind (arith, nat_tests, more) in
      let rise : get_or ns k 0 ≤ get_or ns j 0 = a.ascend k j 0 behind w in
      other (omega (arith, most, rise, e))
])

-- ---- one more number

pub one_more : (d : Destination) (rows : List Row) (ns : List ℕ) (r : Row) (n : ℕ) → AreFixed d rows ns → length ns < length rows → r ≡ get_or rows (length ns) r → fixed d r.pattern ≡ Some n → AreFixed d rows (ns ++ n ∷ [])
one_more d [] ns r n a l e f = absurd (omega (arith, l))
one_more d (x ∷ rows) [] r n a l e f = (subst (λ (z : Row). fixed d z.pattern ≡ Some n) e f, tt)
one_more d (x ∷ rows) (m ∷ ns) r n a l e f = (a.0, one_more d rows ns r n a.1 (omega (arith, l)) e f)

at_end : (ns : List ℕ) (n x : ℕ) → get_or (ns ++ n ∷ []) (length ns) x ≡ n
at_end [] n x = refl
at_end (m ∷ ns) n x = at_end ns n x

pub last_is : (ns : List ℕ) (n x : ℕ) → get_or (ns ++ n ∷ []) (length (ns ++ n ∷ []) - 1) x ≡ n
last_is ns n x =
    let e = length-append ns (n ∷ []) in
    let l : length (ns ++ n ∷ []) - 1 ≡ length ns = omega (arith, e) in
    ap (λ (k : ℕ). get_or (ns ++ n ∷ []) k x) l ∙ at_end ns n x

-- ---- the orders of ports

pub orders_more : (ps : List PortRows) (os : List Order) (p : PortRows) (o : Order) → AreOrders ps os → IsOrder p.rows o → AreOrders (ps ++ p ∷ []) (os ++ o ∷ [])
orders_more [] [] p o a h = (h, tt)
orders_more [] (x ∷ os) p o a h = absurd a
orders_more (q ∷ ps) [] p o a h = absurd a
orders_more (q ∷ ps) (x ∷ os) p o a h = (a.0, orders_more ps os p o a.1 h)

pub as_many : (ps : List PortRows) (os : List Order) → AreOrders ps os → length ps ≡ length os
as_many [] [] a = refl
as_many [] (x ∷ os) a = absurd a
as_many (q ∷ ps) [] a = absurd a
as_many (q ∷ ps) (x ∷ os) a = let h = as_many ps os a.1 in omega (arith, h)

pub order_at : (ps : List PortRows) (os : List Order) (k : ℕ) (p : PortRows) (o : Order) → AreOrders ps os → k < length ps → p ≡ get_or ps k p → o ≡ get_or os k o → IsOrder p.rows o
order_at [] [] k p o a l e f = absurd (omega (arith, l))
order_at [] (x ∷ os) k p o a l e f = absurd a
order_at (q ∷ ps) [] k p o a l e f = absurd a
order_at (q ∷ ps) (x ∷ os) zero p o a l e f = subst (λ (y : PortRows). IsOrder y.rows o) (sym e) (subst (λ (z : Order). IsOrder q.rows z) (sym f) a.0)
order_at (q ∷ ps) (x ∷ os) (suc k) p o a l e f = order_at ps os k p o a.1 (omega (arith, l)) e f
