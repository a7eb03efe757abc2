-- What was recorded of a trace is kept in short: the theorem of short_promise, over what a run promises.
use Rattle.std.proofs.Common.{ℕ, ◌≤◌, List}
use Rattle.tach_media.specs.Medium.{IsCoherent}
use Rattle.trace_model.specs.declared.Item.{Item}
use Rattle.log_model.proofs.Spanning.{seconds-order}
use Rattle.run_outcome.specs.declared.outcome.Outcome.{Outcome}
use Rattle.device_calls.specs.safety_model.Safe.{Devices}
use Rattle.recorder_with_cards.specs.Ends.{RecordsTrace, recording_of}
use Rattle.short_promise.specs.InShort.{KeepsInShort}
use Rattle.short_promise.proofs.Theorem.{keeps-in-short}

pub recorded-keeps : (x a b : List ℕ) (start : ℕ) (items : List Item) (out : Outcome) (began now : Devices) → IsCoherent now.unit → began.unit.clock ≤ now.unit.clock → RecordsTrace x a b start items out began now →
    KeepsInShort (recording_of x a b start items out) out.marks.items began now
recorded-keeps x a b start items out began now coherent early records =
    let ends = records.ends in
    keeps-in-short (recording_of x a b start items out) start ends.may.decodes ends.may.later (seconds-order start items) out.marks.items began now coherent early ends.ends.safe ends.ends.caused
    ends.last.last ends.last.began ends.last.held records.counted.unit ends.since records.counted.card
