-- The seconds of a run went as its course tells them.
use Rattle.std.proofs.Common.{◌≡◌, List, [], ◌∷◌, ◌++◌, map, fold, sym, ◌∙◌, append_assoc}
use Rattle.std.proofs.lemmas.List.{append-nil}
use Rattle.event_model.specs.trace_model.Trace.{TraceSecond}
use Rattle.history_model.specs.log_model.Log.{RunLog}
use Rattle.history_model.specs.log_model.Course.{Went, second_told, before_next, went_on, not_begun, went}
use Rattle.note_model.specs.Done.{Done, done_from, done_of}

told_behind : (log : RunLog) (w : Went) (ss : List TraceSecond) → (fold (went_on log) w ss).told ≡ w.told ++ map (λ (d : Done). d.told) (done_from log w.before ss)
told_behind log w [] = sym (append-nil w.told)
told_behind log w (s ∷ ss) =
    told_behind log (went_on log w s) ss
    ∙ append_assoc w.told (second_told log w.before s ∷ []) (map (λ (d : Done). d.told) (done_from log (before_next w.before (second_told log w.before s)) ss))

pub told_same : (log : RunLog) (ss : List TraceSecond) → map (λ (d : Done). d.told) (done_of log ss) ≡ (went log ss).told
unfolding done_of went
told_same log ss = sym (told_behind log not_begun ss)
