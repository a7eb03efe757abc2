use Rattle.std.proofs.Common.{◌∙◌, ◌++◌, ℕ, List, map, drop, length, ap, arith, length-drop}
use Rattle.view_model.specs.declared.marks.Mark.{Mark}
use Rattle.unit_marks.specs.declared.entries.Kind.TheVariants.{Event, Fault}
use Rattle.unit_marks.specs.Entries.{mark_of}
use Rattle.unit_marks.proofs.Fronts.{moved, at_front, event_fronts}
use Rattle.unit_marks.proofs.TellingMarks.{three_lists}
use Rattle.unit_marks.proofs.entries.add_events.Goals as goal

pub behind-faults-requires : goal.behind-faults-requires
behind-faults-requires c =
    let fronts = event_fronts c.requires.0 c.args.message.now c.requires.1 in
    omega (arith, (at_front 1 82 c.requires.0.faults _ fronts.faults).end, length-drop 2 c.args.message.now)

pub behind_few-events-requires-clause-entries : goal.behind_few-events-requires-clause-entries
behind_few-events-requires-clause-entries c =
    let fronts = event_fronts c.requires.0 c.args.message.now c.requires.1 in
    (c.requires.0.faults, moved _ _ c.behind-faults.ensures fronts.faults)

pub behind_few-control-requires-clause-entries : goal.behind_few-control-requires-clause-entries
behind_few-control-requires-clause-entries c =
    let m = c.requires.0 in
    let fronts = event_fronts c.requires.0 c.args.message.now c.requires.1 in
    (m.events, moved _ _ (c.behind_few-events.ensures m.faults (moved _ _ c.behind-faults.ensures fronts.faults)) fronts.events)

pub behind-overs-requires : goal.behind-overs-requires
behind-overs-requires c =
    let m = c.requires.0 in
    let fronts = event_fronts c.requires.0 c.args.message.now c.requires.1 in
    let events = c.behind_few-events.ensures m.faults (moved _ _ c.behind-faults.ensures fronts.faults) in
    let control = c.behind_few-control.ensures m.events (moved _ _ events fronts.events) in
    omega (arith, ap (λ (l : List ℕ). length l) control, (at_front 1 31 c.requires.0.overs _ fronts.overs).end, length-drop 9 fronts.events.rest)

pub add_entries-requires-clause-entries : goal.add_entries-requires-clause-entries
add_entries-requires-clause-entries c =
    let fronts = event_fronts c.requires.0 c.args.message.now c.requires.1 in
    (c.requires.0.faults, moved _ _ c.behind-faults.ensures fronts.faults)

pub add_entries-requires-2-clause-entries : goal.add_entries-requires-2-clause-entries
add_entries-requires-2-clause-entries c =
    let m = c.requires.0 in
    let fronts = event_fronts c.requires.0 c.args.message.now c.requires.1 in
    (m.events, moved _ _ (c.behind_few-events.ensures m.faults (moved _ _ c.behind-faults.ensures fronts.faults)) fronts.events)

pub add_entries-requires-3-clause-entries : goal.add_entries-requires-3-clause-entries
add_entries-requires-3-clause-entries c =
    let m = c.requires.0 in
    let fronts = event_fronts c.requires.0 c.args.message.now c.requires.1 in
    let events = c.behind_few-events.ensures m.faults (moved _ _ c.behind-faults.ensures fronts.faults) in
    let control = c.behind_few-control.ensures m.events (moved _ _ events fronts.events) in
    (m.overs, moved _ _ (c.behind-overs.ensures ∙ ap (λ (l : List ℕ). drop 9 l) control) fronts.overs)

pub returns : goal.returns
returns c = λ m begins.
    let fronts = event_fronts m c.args.message.now begins in
    let faults = moved _ _ c.behind-faults.ensures fronts.faults in
    let events = moved _ _ (c.behind_few-events.ensures m.faults faults) fronts.events in
    let control = c.behind_few-control.ensures m.events events in
    let overs = moved _ _ (c.behind-overs.ensures ∙ ap (λ (l : List ℕ). drop 9 l) control) fronts.overs in
    let old : List Mark = c.args.marks.now.items in
    let one : List Mark = map (mark_of Fault) m.faults in
    let two : List Mark = map (mark_of Event) m.events in
    let three : List Mark = map (mark_of Event) m.overs in
    c.in_ok-add_entries-3.ensures m.overs overs
    ∙ ap (λ (l : List Mark). l ++ map (mark_of Event) m.overs) (c.in_ok-add_entries-2.ensures m.events events ∙ ap (λ (l : List Mark). l ++ map (mark_of Event) m.events) (c.in_ok-add_entries.ensures m.faults faults))
    ∙ three_lists old one two three
