use Rattle.std.proofs.Common.{◌≤◌, vec_len}
use Rattle.std.specs.Io.KnownBytes.{Consumes}
use Rattle.tach_media.proofs.transfer.take_all.Given as goal

abbrev pub invariant-loop-turn : goal.invariant-loop-turn
invariant-loop-turn g l =
    (l._turn ≤ vec_len l.bytes) × (vec_len l.bytes ≤ l.most) × Consumes (g.S.Source.left l.initial.source) (g.S.Source.left l.source) l.bytes.items × (g.S.Source.faults l.initial.source ≤ g.S.Source.faults l.source)
