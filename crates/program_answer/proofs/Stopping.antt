-- Why commands stop.
use Rattle.std.proofs.Common.{◌≡◌, inl, inr, ℕ, List, Option, None, Some, IfSome, option_map, is_some, refl, sym, ap, subst}
use Rattle.document_text.specs.Documents.{Doc}
use Rattle.document_text.specs.declared.fault.DocFault.{DocFault}
use Rattle.document_text.specs.Grammar.{IsDocument, HasDocFault}
use Rattle.outside_io.specs.Lists.{TakesFirst}
use Rattle.policy_rows.specs.declared.version.Version.{Version}
use Rattle.report_text.specs.Fault.{Fault}
use Rattle.report_text.specs.Fault.TheVariants as fault
use Rattle.program_answer.specs.declared.answer.AnswerError.{AnswerError}
use Rattle.program_answer.specs.declared.answer.AnswerError.TheVariants as error
use Rattle.program_answer.specs.Answers.{Reads, ReadsFirst, Stops, StopsBy}
use Rattle.program_answer.specs.Called.{SourceSeen, IsSame}
use Rattle.program_answer.specs.Input.{IsAcceptedAs, IsReadAs, IsInputRefused, IsTextRefusal, placed_fault, TellsFirst}
use Rattle.program_answer.specs.Versions.{AreVersions, IsFirstPolicyFault}

-- what holds of bytes, if they are known
pub known_more : (P Q : List ℕ → Type 0) (left : Option (List ℕ)) → ((xs : List ℕ) → P xs → Q xs) → IfSome left P → IfSome left Q
known_more P Q None f h = tt
known_more P Q (Some xs) f h = f xs h

pub reads_more : (P Q : List ℕ → Type 0) (s : SourceSeen) → ((xs : List ℕ) → P xs → Q xs) → Reads P s → Reads Q s
reads_more P Q s f r = record { ended = r.ended; faultless = r.faultless; bytes = known_more P Q s.left.before f r.bytes }

first_more : (P Q : List ℕ → Type 0) (s : SourceSeen) → ((xs : List ℕ) → P xs → Q xs) → ReadsFirst P s → ReadsFirst Q s
first_more P Q s f r = record { taken = r.taken; faultless = r.faultless; bytes = known_more P Q s.left.before f r.bytes }

-- a command that refuses more stops for the same faults
stops-by-more : (P Q : List ℕ → Fault → Type 0) → ((xs : List ℕ) (f : Fault) → P xs f → Q xs f) → (s : SourceSeen) (f : Fault) → StopsBy P s f → StopsBy Q s f
stops-by-more P Q h s (fault.Line line column f) r = first_more _ _ s (λ xs p. h xs (fault.Line line column f) p) r
stops-by-more P Q h s (fault.NotEnabled line) r = first_more _ _ s (λ xs p. h xs (fault.NotEnabled line) p) r
stops-by-more P Q h s (fault.NotTwo line) r = first_more _ _ s (λ xs p. h xs (fault.NotTwo line) p) r
stops-by-more P Q h s (fault.Compile policy f) r = first_more _ _ s (λ xs p. h xs (fault.Compile policy f) p) r
stops-by-more P Q h s (fault.Emit policy f) r = first_more _ _ s (λ xs p. h xs (fault.Emit policy f) p) r
stops-by-more P Q h s fault.Read r = r
stops-by-more P Q h s fault.Net r = r
stops-by-more P Q h s fault.NoThread r = r
stops-by-more P Q h s fault.Report r = r
stops-by-more P Q h s fault.Usage r = r

pub stops_more : (P Q : List ℕ → Fault → Type 0) → ((xs : List ℕ) (f : Fault) → P xs f → Q xs f) → (s : SourceSeen) (e : AnswerError) → Stops P s e → Stops Q s e
stops_more P Q h s (error.Fault f) r = stops-by-more P Q h s f r
stops_more P Q h s error.Memory r = r

-- the first fault of the text
pub text_stops : (s : SourceSeen) (f : DocFault) (placed : Fault) → placed ≡ placed_fault f → TakesFirst 4194305 s.left.before s.left.after → IsSame s.faults → IfSome s.left.before (λ xs. HasDocFault xs f) → StopsBy IsTextRefusal s placed
text_stops s f placed is taken same read = subst (λ (g : Fault). StopsBy IsTextRefusal s g) (sym is) (record {
  taken = taken;
  faultless = same;
  bytes = known_more _ _ s.left.before (λ xs h. record { text_fault = f; has = h; is = refl }) read;
})

-- the fault of the first policy that has one
policy-first : (s : SourceSeen) (d : Doc) (f : Fault) → Reads (λ xs. IsDocument xs d) s → TakesFirst 4194305 s.left.before s.left.after → IsFirstPolicyFault d.layout d.settings d.policies f → ReadsFirst (λ xs. IsInputRefused xs f) s
policy-first s d f r taken first = record { taken = taken; faultless = r.faultless; bytes = known_more _ _ s.left.before (λ xs h. inr (record { document = d; read = h; first = first })) r.bytes }

-- what is refused for its text is refused
pub text_refuses : (s : SourceSeen) (e : AnswerError) → Stops IsTextRefusal s e → Stops IsInputRefused s e
text_refuses s e h = stops_more IsTextRefusal IsInputRefused (λ xs f r. inl r) s e h

-- the document of what was read
pub document_reads : (s : SourceSeen) (d : Doc) (after : ℕ) → Reads (λ xs. IsReadAs xs d after) s → Reads (λ xs. IsDocument xs d) s
document_reads s d after r = reads_more _ _ s (λ xs h. h.document) r

pub policy_stops : (s : SourceSeen) (d : Doc) (e : AnswerError) → Reads (λ xs. IsDocument xs d) s → TakesFirst 4194305 s.left.before s.left.after → TellsFirst d.layout d.settings d.policies e → Stops IsInputRefused s e
policy_stops s d error.Memory r taken told = r.faultless
policy_stops s d (error.Fault (fault.Line line column f)) r taken told = policy-first s d _ r taken told
policy_stops s d (error.Fault (fault.NotEnabled line)) r taken told = policy-first s d _ r taken told
policy_stops s d (error.Fault (fault.NotTwo line)) r taken told = policy-first s d _ r taken told
policy_stops s d (error.Fault (fault.Compile policy f)) r taken told = policy-first s d _ r taken told
policy_stops s d (error.Fault (fault.Emit policy f)) r taken told = policy-first s d _ r taken told
policy_stops s d (error.Fault fault.Read) r taken told = absurd told.here
policy_stops s d (error.Fault fault.Net) r taken told = absurd told.here
policy_stops s d (error.Fault fault.NoThread) r taken told = absurd told.here
policy_stops s d (error.Fault fault.Report) r taken told = absurd told.here
policy_stops s d (error.Fault fault.Usage) r taken told = absurd told.here

-- a document with its versions
pub accepted_reads : (s : SourceSeen) (d : Doc) (vs : List Version) → Reads (λ xs. IsDocument xs d) s → AreVersions d.layout d.settings 0 d.policies vs → Reads (λ xs. IsAcceptedAs xs d vs) s
accepted_reads s d vs r are = reads_more _ _ s (λ xs h. record { document = h; versions = are }) r

-- whether there is one does not change with what is seen of it
pub mapped_some : {X Y : Type 0} (f : X → Y) (o : Option X) (h : Option Y) → option_map f o ≡ h → is_some h ≡ is_some o
mapped_some f None h e = ap (λ z. is_some z) (sym e)
mapped_some f (Some x) h e = ap (λ z. is_some z) (sym e)
