-- A document says what its statements say.
use Rattle.std.proofs.Common.{◌≡◌, ℕ, ◌+◌, ◌≤◌, inl, inr, Bool, true, false, not, cond, ◌&&◌, ◌||◌, ◌==◌, is_some, option_map, nat_le, List, [], ◌∷◌, ◌++◌, length, take, map, Option, Some, None, Result, Ok, Err, refl, sym, ap, ◌∙◌, subst, append_assoc, arith}
use Rattle.std.specs.List.{flat_map, list_all}
use Rattle.std.proofs.lemmas.Bool.Decides.{nat_tests}
use Rattle.std.proofs.lemmas.Grind.{flat_map-append}
use Rattle.std.proofs.lemmas.List.{append-nil, map-append}
use Rattle.nk_values.specs.declared.text_fault.TextFault.{TextFault}
use Rattle.nk_values.specs.declared.text_fault.TextFault.TheVariants.{BadLine, Limit, NoEdge, StampRange, TooFewStamps, UnknownName, ValueRange}
use Rattle.nk_values.specs.declared.field.Field.TheVariants.{Sw, Pt}
use Rattle.nk_syntax.specs.Terms.{Term}
use Rattle.netkat_parser.specs.Grammar.{IsText}
use Rattle.topology_model.specs.Layouts.{Layout}
use Rattle.topology_model.specs.Lines.{sites_in, links_in, with_line, line_fault}
use Rattle.topology_model.specs.declared.line.TopoLine.{TopoLine}
use Rattle.topology_model.specs.declared.line.TopoLine.TheVariants as topology
use Rattle.document_text.specs.declared.document.ScheduleStep.{ScheduleStep}
use Rattle.document_text.specs.declared.document.PacketLine.{PacketLine}
use Rattle.document_text.specs.declared.fault.DocFault.{DocFault}
use Rattle.document_text.specs.declared.head.Head.{Head}
use Rattle.document_text.specs.declared.head.Head.TheVariants as head
use Rattle.document_text.specs.declared.declaration.LineKind.{LineKind}
use Rattle.document_text.specs.declared.declaration.LineKind.TheVariants as kind
use Rattle.document_text.specs.Answers.{IsNextState, IsOpening}
use Rattle.document_text.specs.Documents.{Doc, Accepted, Refused}
use Rattle.document_text.specs.Grammar.{Mode, Lines, Block, Does, Closes, Chosen, Goes, Ends, IsFrom, IsDocument, most_bytes, line_behind, cut_off}
use Rattle.document_text.specs.Lines.{is_end_value, after_topology, after_policies, set_once, at_edge, placed_by, placed, switch_form, switch_line, link_form, link_line, one_numeral, two_numerals, hops_line, capacity_line, stamps_line, rejoins_line, overlap_line, policy_line, packet_form, packet_line, schedule_line}
use Rattle.document_text.specs.Packets.{GivenFields, is_value}
use Rattle.document_text.specs.Statements.{Statement, SwitchLine, LinkLine, PacketWords, PolicyText, EventLine, Stand, TopLevel, InPolicy, InSchedule, headed, statement_of, statements_from, statements_of, given_by, topology_in, packets_in, texts_in, lines_in, AreRead, Says}
use Rattle.document_text.specs.Schedules.{refused_if, event_of}
use Rattle.document_text.specs.States.{State, initial_state, place_of_kind, is_late, has_edge, is_empty, with_policy, doc_of_state}
use Rattle.document_text.specs.Steps.{Step, Next, Enters, Opens, Stops, head_of, is_too_many, opens, enters, happens, scheduled, declares, step}
use Rattle.document_text.specs.Texts.{lines_of, words_of, is_end}
use Rattle.document_text.proofs.Holding.{next-is, opens-no-next, ok-is, line-is, policies-ok, next-no-opening, enters-no-opening, scheduled-no-opening}
use Rattle.document_text.proofs.Limits.{no-doc, doc-is, cut-not}
use Rattle.document_text.proofs.Pieces.{take-all}
use Rattle.document_text.proofs.Sound.{formed-ok, refused-ok, edge-ok}

to-nil : {A : Type 0} (xs : List A) → xs ≡ xs ++ []
to-nil xs = sym (append-nil xs)

-- what the statements are compared with
record Shown : Type 0 where
  layout : Layout
  policies : List Term
  packets : List PacketLine
  lines : List ℕ

abbrev shown : State → Shown
shown s = record { layout = s.layout; policies = s.policies; packets = s.packets; lines = map (λ e. e.line) s.events }

abbrev shown_doc : Doc → Shown
shown_doc d = record { layout = d.layout; policies = d.policies; packets = d.packets; lines = map (λ e. e.line) d.schedule }

-- a layout with more lines
abbrev behind : Layout → List TopoLine → Layout
behind t ls = record { switches = t.switches ++ flat_map sites_in ls; links = t.links ++ flat_map links_in ls }

-- what is shown with more statements
record Grows (statements : List Statement) (u v : Shown) : Type 0 where
  layout : v.layout ≡ behind u.layout (flat_map topology_in statements)
  more : List Term
  policies : v.policies ≡ u.policies ++ more
  read : AreRead (flat_map texts_in statements) more
  packets : v.packets ≡ u.packets ++ flat_map packets_in statements
  lines : v.lines ≡ u.lines ++ flat_map lines_in statements

same-layout : (t : Layout) → t ≡ behind t []
same-layout t i = record { switches = to-nil t.switches i; links = to-nil t.links i }

grows-none : (u : Shown) → Grows [] u u
grows-none u = record {
  layout = same-layout u.layout;
  more = [];
  policies = to-nil u.policies;
  read = tt;
  packets = to-nil u.packets;
  lines = to-nil u.lines;
}

behind-behind : (t : Layout) (xs ys : List TopoLine) → behind (behind t xs) ys ≡ behind t (xs ++ ys)
behind-behind t xs ys i = record {
  switches = (append_assoc t.switches (flat_map sites_in xs) (flat_map sites_in ys) ∙ ap (λ zs. t.switches ++ zs) (sym (flat_map-append sites_in xs ys))) i;
  links = (append_assoc t.links (flat_map links_in xs) (flat_map links_in ys) ∙ ap (λ zs. t.links ++ zs) (sym (flat_map-append links_in xs ys))) i;
}

read-append : (ts us : List (List ℕ)) (ps qs : List Term) → AreRead ts ps → AreRead us qs → AreRead (ts ++ us) (ps ++ qs)
read-append [] us [] qs h k = k
read-append [] us (p ∷ ps) qs h k = absurd h
read-append (t ∷ ts) us [] qs h k = absurd h
read-append (t ∷ ts) us (p ∷ ps) qs h k = (h.0, read-append ts us ps qs h.1 k)

two : {A : Type 0} (u v w x y z : List A) → v ≡ u ++ x → w ≡ v ++ y → x ++ y ≡ z → w ≡ u ++ z
two u v w x y z e k h = k ∙ ap (λ r. r ++ y) e ∙ append_assoc u x y ∙ ap (λ r. u ++ r) h

grows-both : (a b : List Statement) (u v w : Shown) → Grows a u v → Grows b v w → Grows (a ++ b) u w
grows-both a b u v w g h = record {
  layout = h.layout ∙ ap (λ t. behind t (flat_map topology_in b)) g.layout ∙ behind-behind u.layout (flat_map topology_in a) (flat_map topology_in b)
      ∙ ap (behind u.layout) (sym (flat_map-append topology_in a b));
  more = g.more ++ h.more;
  policies = two u.policies v.policies w.policies g.more h.more (g.more ++ h.more) g.policies h.policies refl;
  read = subst (λ ts. AreRead ts (g.more ++ h.more)) (sym (flat_map-append texts_in a b)) (read-append (flat_map texts_in a) (flat_map texts_in b) g.more h.more g.read h.read);
  packets = two u.packets v.packets w.packets _ _ _ g.packets h.packets (sym (flat_map-append packets_in a b));
  lines = two u.lines v.lines w.lines _ _ _ g.lines h.lines (sym (flat_map-append lines_in a b));
}

-- where the next line stands
abbrev stand : Bool → Stand
stand true = InSchedule
stand false = TopLevel

record Follows (x : List Statement × Stand) (s t : State) : Type 0 where
  grows : Grows x.0 (shown s) (shown t)
  at : x.1 ≡ stand t.inside

-- a line of the topology
one-line : (t : Layout) (l : TopoLine) → with_line t l ≡ behind t (l ∷ [])
one-line t l i = record {
  switches = ap (λ zs. t.switches ++ zs) (to-nil (sites_in l)) i;
  links = ap (λ zs. t.links ++ zs) (to-nil (links_in l)) i;
}

placed-grows : (s : State) (k : LineKind) (l : TopoLine) (statement : Statement) → l ∷ [] ≡ topology_in statement → [] ≡ texts_in statement → [] ≡ packets_in statement → [] ≡ lines_in statement
    → s.inside ≡ false → Follows (statement ∷ [], TopLevel) s (record s { reached = k; layout = with_line s.layout l })
placed-grows s k l statement topo texts packets lines out = record {
  grows = record {
    layout = one-line s.layout l ∙ ap (λ ls. behind s.layout (ls ++ [])) topo;
    more = [];
    policies = to-nil s.policies;
    read = subst (λ ts. AreRead (ts ++ []) []) texts tt;
    packets = to-nil s.packets ∙ ap (λ ps. s.packets ++ (ps ++ [])) packets;
    lines = to-nil (map (λ e. e.line) s.events) ∙ ap (λ ns. map (λ e. e.line) s.events ++ (ns ++ [])) lines;
  };
  at = ap stand (sym out);
}

placed-is : (s t : State) (o : Option TextFault) → placed_by s o ≡ Ok t → s ≡ t
placed-is s t None e = ok-is s t e
placed-is s t (Some f) e = absurd (cc)

switch-says : (s t : State) (ws : List (List ℕ)) → s.inside ≡ false → switch_line s ws ≡ Ok t → Follows (SwitchLine ws ∷ [], TopLevel) s t
switch-says s t ws out e =
    let x = formed-ok (switch_form ws) _ t e in
    let line : TopoLine = topology.Switch x.0.0 x.0.1 in
    let made : State = record s { reached = kind.Switch; layout = with_line s.layout line } in
    let ranged = not (is_value Sw x.0.0 && list_all (is_value Pt) x.0.1) in
    let a = refused-ok (is_late s kind.Switch) BadLine (refused_if ranged ValueRange (placed s kind.Switch line)) t x.2 in
    let b = refused-ok ranged ValueRange (placed s kind.Switch line) t a.1 in
    subst (Follows (SwitchLine ws ∷ [], TopLevel) s) (placed-is made t (line_fault s.layout line) b.1)
    (placed-grows s kind.Switch line (SwitchLine ws) (sym (ap (λ o. given_by (option_map (λ y. topology.Switch y.0 y.1) o)) x.1)) refl refl refl out)

link-says : (s t : State) (ws : List (List ℕ)) → s.inside ≡ false → link_line s ws ≡ Ok t → Follows (LinkLine ws ∷ [], TopLevel) s t
link-says s t ws out e =
    let x = formed-ok (link_form ws) _ t e in
    let line : TopoLine = topology.Link x.0.0 x.0.1 in
    let made : State = record s { reached = kind.Link; layout = with_line s.layout line } in
    let ranged = not (is_end_value x.0.0 && is_end_value x.0.1) in
    let a = refused-ok (is_late s kind.Link) BadLine (refused_if ranged ValueRange (placed s kind.Link line)) t x.2 in
    let b = refused-ok ranged ValueRange (placed s kind.Link line) t a.1 in
    subst (Follows (LinkLine ws ∷ [], TopLevel) s) (placed-is made t (line_fault s.layout line) b.1)
    (placed-grows s kind.Link line (LinkLine ws) (sym (ap (λ o. given_by (option_map (λ y. topology.Link y.0 y.1) o)) x.1)) refl refl refl out)

-- a setting
set : (s t : State) → s.inside ≡ false → shown t ≡ shown s → t.inside ≡ s.inside → Follows ([], TopLevel) s t
set s t out e i = record { grows = subst (Grows [] (shown s)) (sym e) (grows-none (shown s)); at = ap stand (sym (i ∙ out)) }

set_once-ok : (s : State) (given : Bool) (r : Result State TextFault) (t : State) → set_once s given r ≡ Ok t → r ≡ Ok t
set_once-ok s given r t e =
    let a = refused-ok (is_late s kind.Setting || given) BadLine (after_topology s r) t e in
    (refused-ok (not (has_edge s.layout)) NoEdge r t a.1).1

hops-says : (s t : State) (ws : List (List ℕ)) → s.inside ≡ false → hops_line s ws ≡ Ok t → Follows ([], TopLevel) s t
hops-says s t ws out e =
    let x = formed-ok (one_numeral ws) _ t e in
    let made : State = record s { reached = kind.Setting; hops = Some x.0 } in
    let range = not (nat_le 1 x.0 && nat_le x.0 1000) in
    let c = refused-ok range ValueRange (Ok made) t (set_once-ok s (is_some s.hops) (refused_if range ValueRange (Ok made)) t x.2) in
    subst (Follows ([], TopLevel) s) (ok-is made t c.1) (set s made out refl refl)

capacity-says : (s t : State) (ws : List (List ℕ)) → s.inside ≡ false → capacity_line s ws ≡ Ok t → Follows ([], TopLevel) s t
capacity-says s t ws out e =
    let x = formed-ok (one_numeral ws) _ t e in
    let made : State = record s { reached = kind.Setting; capacity = Some x.0 } in
    let range = not (nat_le 1 x.0 && nat_le x.0 200000) in
    let c = refused-ok range ValueRange (Ok made) t (set_once-ok s (is_some s.capacity) (refused_if range ValueRange (Ok made)) t x.2) in
    subst (Follows ([], TopLevel) s) (ok-is made t c.1) (set s made out refl refl)

stamps-says : (s t : State) (ws : List (List ℕ)) → s.inside ≡ false → stamps_line s ws ≡ Ok t → Follows ([], TopLevel) s t
stamps-says s t ws out e =
    let x = formed-ok (two_numerals ws) _ t e in
    let made : State = record s { reached = kind.Setting; stamps = Some x.0 } in
    let few = refused_if (x.0.0 == x.0.1) TooFewStamps (Ok made) in
    let range = not (nat_le 1 x.0.0 && nat_le x.0.0 x.0.1 && nat_le x.0.1 4094) in
    let c = refused-ok range StampRange few t (set_once-ok s (is_some s.stamps) (refused_if range StampRange few) t x.2) in
    let d = refused-ok (x.0.0 == x.0.1) TooFewStamps (Ok made) t c.1 in
    subst (Follows ([], TopLevel) s) (ok-is made t d.1) (set s made out refl refl)

rejoins-says : (s t : State) (ws : List (List ℕ)) → s.inside ≡ false → rejoins_line s ws ≡ Ok t → Follows ([], TopLevel) s t
rejoins-says s t ws out e =
    let x = formed-ok (one_numeral ws) _ t e in
    let made : State = record s { reached = kind.Setting; rejoins = Some x.0 } in
    let range = not (nat_le 0 x.0 && nat_le x.0 1000) in
    let c = refused-ok range ValueRange (Ok made) t (set_once-ok s (is_some s.rejoins) (refused_if range ValueRange (Ok made)) t x.2) in
    subst (Follows ([], TopLevel) s) (ok-is made t c.1) (set s made out refl refl)

overlap-says : (s t : State) (ws : List (List ℕ)) → s.inside ≡ false → overlap_line s ws ≡ Ok t → Follows ([], TopLevel) s t
overlap-says s t [] out e =
    let made : State = record s { reached = kind.Setting; overlap = true } in
    let c = set_once-ok s s.overlap (Ok made) t e in
    subst (Follows ([], TopLevel) s) (ok-is made t c) (set s made out refl refl)
overlap-says s t (w ∷ ws) out e = absurd (cc)

schedule-says : (s t : State) (ws : List (List ℕ)) → schedule_line s ws ≡ Ok t → Follows ([], InSchedule) s t
schedule-says s t [] e =
    let made : State = record s { reached = kind.Schedule; inside = true } in
    let a = refused-ok (nat_le 5 (place_of_kind s.reached)) BadLine (after_policies s (Ok made)) t e in
    let c = policies-ok s (Ok made) t a.1 in
    subst (Follows ([], InSchedule) s) (ok-is made t c) (record { grows = grows-none (shown s); at = refl })
schedule-says s t (w ∷ ws) e = absurd (cc)

-- a packet
abbrev given_packet : (ℕ × ℕ) × GivenFields → PacketLine
given_packet x = record { packet = x.1.packet; tag = x.1.tag }

packet-is : (s : State) (p : PacketLine) (ws : List (List ℕ)) → packet_line s ws ≡ Ok p → packets_in (PacketWords ws) ≡ p ∷ []
packet-is s p ws e =
    let x = formed-ok (packet_form ws) _ p e in
    let made : Result PacketLine TextFault = Ok (record { packet = x.0.1.packet; tag = x.0.1.tag }) in
    let ranged = refused_if (not (is_end_value x.0.0) || x.0.1.outside) ValueRange (at_edge s x.0.0 made) in
    let a = refused-ok (is_late s kind.Packet) BadLine (after_policies s (refused_if x.0.1.unknown UnknownName ranged)) p x.2 in
    let c = policies-ok s (refused_if x.0.1.unknown UnknownName ranged) p a.1 in
    let d = refused-ok x.0.1.unknown UnknownName ranged p c in
    let f = refused-ok (not (is_end_value x.0.0) || x.0.1.outside) ValueRange (at_edge s x.0.0 made) p d.1 in
    let g = edge-ok s x.0.0 made p f.1 in
    let same = line-is (record { packet = x.0.1.packet; tag = x.0.1.tag }) p g.1 in
    ap (λ o. given_by (option_map given_packet o)) x.1 ∙ ap (λ q. q ∷ []) same

enters-says : (s t : State) (ws : List (List ℕ)) (r : Result PacketLine TextFault) → packet_line s ws ≡ r → s.inside ≡ false → IsNextState (enters s r) t → Follows (PacketWords ws ∷ [], TopLevel) s t
enters-says s t ws (Err f) e out k = absurd k
enters-says s t ws (Ok p) e out k = subst (Follows (PacketWords ws ∷ [], TopLevel) s) (sym k.1) (record {
  grows = record {
    layout = same-layout s.layout;
    more = [];
    policies = to-nil s.policies;
    read = tt;
    packets = ap (λ ps. s.packets ++ (ps ++ [])) (sym (packet-is s p ws e));
    lines = to-nil (map (λ x. x.line) s.events);
  };
  at = ap stand (sym out);
})

declares-says : (s t : State) (d : Head) (ws : List (List ℕ)) → s.inside ≡ false → IsNextState (declares s d ws) t → Follows (headed d ws) s t
declares-says s t head.Switch ws out k = switch-says s t ws out (next-is (switch_line s ws) t k)
declares-says s t head.Link ws out k = link-says s t ws out (next-is (link_line s ws) t k)
declares-says s t head.Hops ws out k = hops-says s t ws out (next-is (hops_line s ws) t k)
declares-says s t head.Capacity ws out k = capacity-says s t ws out (next-is (capacity_line s ws) t k)
declares-says s t head.Stamps ws out k = stamps-says s t ws out (next-is (stamps_line s ws) t k)
declares-says s t head.Rejoins ws out k = rejoins-says s t ws out (next-is (rejoins_line s ws) t k)
declares-says s t head.Overlap ws out k = overlap-says s t ws out (next-is (overlap_line s ws) t k)
declares-says s t head.Policy ws out k = absurd (opens-no-next (policy_line s ws) t k)
declares-says s t head.Packet ws out k = enters-says s t ws (packet_line s ws) refl out k
declares-says s t head.Schedule ws out k = schedule-says s t ws (next-is (schedule_line s ws) t k)
declares-says s t head.Unlisted ws out k = absurd k

-- a line of the schedule
happens-says : (s t : State) (n : ℕ) (ws : List (List ℕ)) (r : Result ScheduleStep TextFault) → s.inside ≡ true → IsNextState (happens s n r) t → Follows (EventLine n ws ∷ [], InSchedule) s t
happens-says s t n ws (Err f) i k = absurd k
happens-says s t n ws (Ok x) i k = subst (Follows (EventLine n ws ∷ [], InSchedule) s) (sym k) (record {
  grows = record {
    layout = same-layout s.layout;
    more = [];
    policies = to-nil s.policies;
    read = tt;
    packets = to-nil s.packets;
    lines = map-append (λ e. e.line) s.events (record { line = n; event = x } ∷ []);
  };
  at = ap stand (sym i);
})

scheduled-says : (s t : State) (n : ℕ) (ws : List (List ℕ)) (b : Bool) → s.inside ≡ true → IsNextState (cond b (Next (record s { inside = false })) (happens s n (event_of s ws))) t
    → Follows (cond b ([], TopLevel) (EventLine n ws ∷ [], InSchedule)) s t
scheduled-says s t n ws true i k = subst (Follows ([], TopLevel) s) (sym k) (record { grows = grows-none (shown s); at = refl })
scheduled-says s t n ws false i k = happens-says s t n ws (event_of s ws) i k

-- one line
says-by : (s t : State) (n : ℕ) (line w : List ℕ) (ws : List (List ℕ)) (b i : Bool) → s.inside ≡ i
    → IsNextState (cond b (Stops Limit) (cond i (scheduled s n (w ∷ ws)) (declares s (head_of w) ws))) t → Follows (statement_of (stand i) n line (w ∷ ws)) s t
says-by s t n line w ws true i e k = absurd k
says-by s t n line w ws false true e k = scheduled-says s t n (w ∷ ws) (is_end (w ∷ ws)) e k
says-by s t n line w ws false false e k = declares-says s t (head_of w) ws e k

blank-says : (s : State) (n : ℕ) (line : List ℕ) (i : Bool) → s.inside ≡ i → Follows (statement_of (stand i) n line []) s s
blank-says s n line true e = record { grows = grows-none (shown s); at = ap stand (sym e) }
blank-says s n line false e = record { grows = grows-none (shown s); at = ap stand (sym e) }

step-says : (s t : State) (n : ℕ) (line : List ℕ) (ws : List (List ℕ)) → IsNextState (step s n ws) t → Follows (statement_of (stand s.inside) n line ws) s t
step-says s t n line [] k = subst (Follows (statement_of (stand s.inside) n line []) s) (sym k) (blank-says s n line s.inside refl)
step-says s t n line (w ∷ ws) k = says-by s t n line w ws (is_too_many s (head_of w) (w ∷ ws)) s.inside refl k

-- a line that begins a policy
record Begins (x : List Statement × Stand) (s t : State) : Type 0 where
  statement : x ≡ ([], InPolicy [])
  same : shown t ≡ shown s
  out : t.inside ≡ false

policy-begins : (s t : State) (ws : List (List ℕ)) (r : Result State TextFault) → policy_line s ws ≡ r → s.inside ≡ false → IsOpening (opens r) t → Begins ([], InPolicy []) s t
policy-begins s t ws (Err f) e out k = absurd k
policy-begins s t [] (Ok u) e out k =
    let made : State = record s { reached = kind.Policy } in
    let a = refused-ok (is_late s kind.Policy) BadLine (after_topology s (Ok made)) u e in
    let b = refused-ok (not (has_edge s.layout)) NoEdge (Ok made) u a.1 in
    subst (Begins ([], InPolicy []) s) (ok-is made u b.1 ∙ sym k) (record { statement = refl; same = refl; out = out })
policy-begins s t (w ∷ ws) (Ok u) e out k = absurd (cc)

declares-begins : (s t : State) (d : Head) (ws : List (List ℕ)) → s.inside ≡ false → IsOpening (declares s d ws) t → Begins (headed d ws) s t
declares-begins s t head.Switch ws out k = absurd (next-no-opening (switch_line s ws) t k)
declares-begins s t head.Link ws out k = absurd (next-no-opening (link_line s ws) t k)
declares-begins s t head.Hops ws out k = absurd (next-no-opening (hops_line s ws) t k)
declares-begins s t head.Capacity ws out k = absurd (next-no-opening (capacity_line s ws) t k)
declares-begins s t head.Stamps ws out k = absurd (next-no-opening (stamps_line s ws) t k)
declares-begins s t head.Rejoins ws out k = absurd (next-no-opening (rejoins_line s ws) t k)
declares-begins s t head.Overlap ws out k = absurd (next-no-opening (overlap_line s ws) t k)
declares-begins s t head.Policy ws out k = policy-begins s t ws (policy_line s ws) refl out k
declares-begins s t head.Packet ws out k = absurd (enters-no-opening s (packet_line s ws) t k)
declares-begins s t head.Schedule ws out k = absurd (next-no-opening (schedule_line s ws) t k)
declares-begins s t head.Unlisted ws out k = absurd k

begins-by : (s t : State) (n : ℕ) (line w : List ℕ) (ws : List (List ℕ)) (b i : Bool) → s.inside ≡ i
    → IsOpening (cond b (Stops Limit) (cond i (scheduled s n (w ∷ ws)) (declares s (head_of w) ws))) t → Begins (statement_of (stand i) n line (w ∷ ws)) s t
begins-by s t n line w ws true i e k = absurd k
begins-by s t n line w ws false true e k = absurd (scheduled-no-opening s n (w ∷ ws) (is_end (w ∷ ws)) t k)
begins-by s t n line w ws false false e k = declares-begins s t (head_of w) ws e k

step-begins : (s t : State) (n : ℕ) (line : List ℕ) (ws : List (List ℕ)) → IsOpening (step s n ws) t → Begins (statement_of (stand s.inside) n line ws) s t
step-begins s t n line [] k = absurd k
step-begins s t n line (w ∷ ws) k = begins-by s t n line w ws (is_too_many s (head_of w) (w ∷ ws)) s.inside refl k

-- all lines
abbrev stand_in : Mode → Stand
stand_in (Lines s) = stand s.inside
stand_in (Block s begin text) = InPolicy text

abbrev shown_in : Mode → Shown
shown_in (Lines s) = shown s
shown_in (Block s begin text) = shown s

abbrev Ready : Mode → Type 0
Ready (Lines s) = Unit {0}
Ready (Block s begin text) = s.inside ≡ false

-- what comes of the lines after
abbrev IsMade : List (List ℕ) → ℕ → Doc → Mode → Type 0
IsMade ls n d m = Grows (statements_from (stand_in m) n ls) (shown_in m) (shown_doc d)

next-made : (ls : List (List ℕ)) (n : ℕ) (d : Doc) (x : List Statement × Stand) (s t : State) → Follows x s t → IsMade ls n d (Lines t)
    → Grows (x.0 ++ statements_from x.1 n ls) (shown s) (shown_doc d)
next-made ls n d x s t f g =
    grows-both x.0 (statements_from x.1 n ls) (shown s) (shown t) (shown_doc d) f.grows (subst (λ at. Grows (statements_from at n ls) (shown t) (shown_doc d)) (sym f.at) g)

opens-made : (ls : List (List ℕ)) (n begin : ℕ) (d : Doc) (x : List Statement × Stand) (s t : State) → Begins x s t → IsMade ls n d (Block t begin [])
    → Grows (x.0 ++ statements_from x.1 n ls) (shown s) (shown_doc d)
opens-made ls n begin d x s t b g =
    subst (λ y. Grows (y.0 ++ statements_from y.1 n ls) (shown s) (shown_doc d)) (sym b.statement) (subst (λ u. Grows (statements_from (InPolicy []) n ls) u (shown_doc d)) b.same g)

does-made : (Go : Mode → Type 0) (ls : List (List ℕ)) (n : ℕ) (d : Doc) (x : List Statement × Stand) (s : State) (y : Step) → ((t : State) → IsNextState y t → Follows x s t) → ((t : State) → IsOpening y t → Begins x s t)
    → ((m : Mode) → Ready m → Go m → IsMade ls (n + 1) d m) → Does Go n (Accepted d) y → Grows (x.0 ++ statements_from x.1 (n + 1) ls) (shown s) (shown_doc d)
does-made Go ls n d x s (Next t) next opens go k = next-made ls (n + 1) d x s t (next t refl) (go (Lines t) tt k)
does-made Go ls n d x s (Enters p t) next opens go (inl k) = next-made ls (n + 1) d x s t (next t (k.0, refl)) (go (Lines t) tt k.1)
does-made Go ls n d x s (Enters p t) next opens go (inr k) = no-doc d _ k.1
does-made Go ls n d x s (Opens t) next opens go k = let b = opens t refl in opens-made ls (n + 1) (n + 1) d x s t b (go (Block t (n + 1) []) b.out k)
does-made Go ls n d x s (Stops f) next opens go k = no-doc d _ k

policy-grows : (s : State) (p : Term) (text : List ℕ) → IsText text p → Grows (PolicyText text ∷ []) (shown s) (shown (with_policy s p))
policy-grows s p text h = record {
  layout = same-layout s.layout;
  more = p ∷ [];
  policies = refl;
  read = (h, tt);
  packets = to-nil s.packets;
  lines = to-nil (map (λ e. e.line) s.events);
}

abbrev closing : Bool → List ℕ → List ℕ → List Statement × Stand
closing b text line = cond b (PolicyText text ∷ [], TopLevel) ([], InPolicy (text ++ line))

chosen-made : (Go : Mode → Type 0) (ls : List (List ℕ)) (n begin : ℕ) (d : Doc) (s : State) (text line : List ℕ) (b : Bool) → s.inside ≡ false
    → ((m : Mode) → Ready m → Go m → IsMade ls n d m) → Chosen b (Closes Go (Accepted d) s begin text) (Go (Block s begin (text ++ line)))
    → Grows ((closing b text line).0 ++ statements_from (closing b text line).1 n ls) (shown s) (shown_doc d)
chosen-made Go ls n begin d s text line true out go (inl k) =
    next-made ls n d (PolicyText text ∷ [], TopLevel) s (with_policy s k.0) (record { grows = policy-grows s k.0 text k.1; at = ap stand (sym out) }) (go (Lines (with_policy s k.0)) tt k.2)
chosen-made Go ls n begin d s text line true out go (inr k) = no-doc d _ k.2
chosen-made Go ls n begin d s text line false out go k = go (Block s begin (text ++ line)) out k

finished-by : (s : State) (d : Doc) (i g p : Bool) (a b c : DocFault) → Accepted d ≡ cond i (Refused a) (cond (not g) (Refused b) (cond p (Refused c) (Accepted (doc_of_state s)))) → doc_of_state s ≡ d
finished-by s d true g p a b c k = no-doc d a k
finished-by s d false false p a b c k = no-doc d b k
finished-by s d false true true a b c k = no-doc d c k
finished-by s d false true false a b c k = sym (doc-is d (doc_of_state s) k)

ends-made : (n : ℕ) (d : Doc) (m : Mode) → Ends n (Accepted d) m → IsMade [] n d m
ends-made n d (Lines s) k =
    subst (λ e. Grows [] (shown s) (shown_doc e)) (finished-by s d s.inside (has_edge s.layout) (is_empty s.policies) _ _ _ k) (grows-none (shown s))
ends-made n d (Block s begin text) (inl k) = no-doc d _ k.3
ends-made n d (Block s begin text) (inr k) = no-doc d _ k.1

goes-made : (Go : Mode → Type 0) (ls : List (List ℕ)) (n : ℕ) (d : Doc) (m : Mode) (line : List ℕ) → Ready m → ((t : Mode) → Ready t → Go t → IsMade ls (n + 1) d t)
    → Goes Go n (Accepted d) m line → IsMade (line ∷ ls) n d m
goes-made Go ls n d (Lines s) line r go k =
    does-made Go ls n d (statement_of (stand s.inside) n line (words_of line)) s (step s n (words_of line)) (λ t. step-says s t n line (words_of line)) (λ t. step-begins s t n line (words_of line)) go k
goes-made Go ls n d (Block s begin text) line r go k = chosen-made Go ls (n + 1) begin d s text line (is_end (words_of line)) r go k

from-made : (ls : List (List ℕ)) (n : ℕ) (d : Doc) (m : Mode) → Ready m → IsFrom m n ls (Accepted d) → IsMade ls n d m
from-made [] n d m r k = ends-made n d m k
from-made (l ∷ ls) n d m r k = goes-made (λ t. IsFrom t (n + 1) ls (Accepted d)) ls n d m l r (λ t q g. from-made ls (n + 1) d t q g) k

-- a document has not too many bytes
short-by : (m n : ℕ) (b : Bool) → nat_le m n ≡ b → b ≡ true → m ≤ n
short-by m n b e k = let t : nat_le m n ≡ true = e ∙ k in grind (arith, nat_tests)

record IsShort (text : List ℕ) (d : Doc) : Type 0 where
  short : length text ≤ most_bytes
  from : IsFrom (Lines initial_state) 1 (lines_of (take (most_bytes + 1) text)) (Accepted d)

short-doc : (text : List ℕ) (d : Doc) → IsDocument text d → IsShort text d
short-doc text d h = split (nat_le (length text) most_bytes) refl h.2
  where
    split : (b : Bool) → nat_le (length text) most_bytes ≡ b → Accepted d ≡ cond b h.0 (cut_off (line_behind (take most_bytes text)) h.0) → IsShort text d
    split true e k = record { short = short-by (length text) most_bytes true e refl; from = subst (IsFrom (Lines initial_state) 1 (lines_of (take (most_bytes + 1) text))) (sym k) h.1 }
    split false e k = absurd (cut-not (line_behind (take most_bytes text)) h.0 d k)

pub reading-says : (text : List ℕ) (d : Doc) → IsDocument text d → Says (statements_of text) d
reading-says text d h =
    let k = short-doc text d h in
    let whole : take (most_bytes + 1) text ≡ text = take-all (most_bytes + 1) text (omega (arith, k.short)) in
    let g = from-made (lines_of text) 1 d (Lines initial_state) tt (subst (λ t. IsFrom (Lines initial_state) 1 (lines_of t) (Accepted d)) whole k.from) in
    record {
      layout = g.layout;
      policies = subst (AreRead (flat_map texts_in (statements_of text))) (sym g.policies) g.read;
      packets = g.packets;
      events = g.lines;
    }
