-- The line of a generated workload.
use Rattle.std.specs.Prelude.{◌≡◌, ℕ, List, ◌++◌, length, sum_by, codes}
use Rattle.std.specs.Fmt.{decimal}
use Rattle.update_laws.specs.Traffic.{Arrived}
use Rattle.world_core.specs.declared.event.Event.{Event}
use Rattle.world_core.specs.Worlds.{WorldValue}
use Rattle.value_text.specs.Values.{line}

-- how many finished histories these arrivals have together
abbrev pub finished_count : List Arrived → ℕ
finished_count arrivals = sum_by (λ (a : Arrived). length a.finished) arrivals

-- how much there is: switches, policies, packets, events, and finished histories
abbrev pub counts_text : ℕ → ℕ → ℕ → ℕ → ℕ → List ℕ
counts_text switches policies packets events finished =
    line (codes "switches " ++
    (decimal switches ++ (codes " policies " ++
    (decimal policies ++ (codes " packets " ++
    (decimal packets ++ (codes " events " ++ (decimal events ++ (codes " finished " ++ decimal finished)))))))))

-- The line of so many packets, the events that were done with them, and the world that they led to.
abbrev pub IsGeneratedText : ℕ → WorldValue → List Event → List ℕ → Type 0
IsGeneratedText packets w events text =
    text ≡ counts_text (length w.topology.switches) (length w.versions) packets (length events)
    (finished_count w.arrivals)
