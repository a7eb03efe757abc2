use Rattle.std.proofs.Common.{◌≡◌, ◌∙◌, Bool, ap, sym}
use Rattle.view_model.specs.declared.UnitShown.{UnitShown}
use Rattle.view_model.specs.declared.Viewed.{Viewed}
use Rattle.slot_bars.specs.declared.seen.Seen.{Seen}
use Rattle.slot_bars.specs.Seeing.{state_in, slot_seen}
use Rattle.slot_bars.proofs.bars.part_from.Goals as goal

pub returns-clause-seen : goal.returns-clause-seen
returns-clause-seen c = λ m low high.
    let line = c.args.line in
    let seen : Bool → Seen = λ known. record { act = (state_in c.args.slot c.args.line.shown).act; present = (state_in c.args.slot c.args.line.shown).present; crew = c.args.line.shown.crew; known = known } in
    ap seen (c.last_alike-last.ensures.alike m low high)
    ∙ sym (ap (λ (v : Viewed Seen). v.shown) (c.slot_seen-seen.ensures ∙ ap (λ (v : Viewed UnitShown). slot_seen c.args.gaps.now c.args.slot v) c.viewed_at-viewed.ensures))
