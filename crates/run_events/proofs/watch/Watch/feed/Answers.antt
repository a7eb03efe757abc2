use Rattle.std.proofs.Common.{◌≡◌, ◌∙◌, ℕ, Bool, cond, Some, None, ◌++◌, map, refl, ap, sym, subst, nat_lt}
use Rattle.std.specs.Prelude.{option_map, option_to_list, unwrap_or}
use Rattle.event_model.specs.declared.entries.Over.{Over}
use Rattle.event_model.specs.declared.entries.Span.{Span}
use Rattle.event_model.specs.Spans.{bares_of, all_bare, at_speed}
use Rattle.event_rules.specs.Bare as bare_feed
use Rattle.unit_events.proofs.Watching.{bare-row, speed-row, bare-some, over-some}
use Rattle.run_crew.specs.declared.cards.Crew.{Crew}
use Rattle.run_events.specs.Watching.{seconds_with, driver_second, speed_second, BareWith, OverWith, bares_with, overs_with}
use Rattle.run_events.proofs.WatchFed.{bares-given, overs-given, stands-on, late-on, drivers-late, speeds-late}
use Rattle.run_events.proofs.watch.Watch.feed.Goals as goal

pub returns-clause-fed : goal.returns-clause-fed
returns-clause-fed c = record {
  bares = λ ss h.
      bares-given c.args.self.now ss h c.args.first c.args.count c.args.speed c.args.crew c.requires.some c.feed_run.result
      (subst (λ (b : Bool). bares_of (map driver_second ss ++ all_bare c.args.first c.args.count b) ≡ bares_of (map driver_second ss) ++ option_to_list c.feed_run.result) c.is_driven_bare-is_bare.ensures
      (c.feed_run.ensures.given (map driver_second ss) h.bare))
      ∙ ap (λ (k : Crew). bares_with ss ++ option_to_list (option_map {T = Span} {U = BareWith} (λ span. record { span = span; begin = k; end = c.args.self.now.last }) c.feed_run.result)) (sym c.unwrap_or.ensures);
  overs = λ ss h.
      overs-given c.args.self.now ss h c.args.first c.args.count c.args.speed c.args.crew c.requires.some c.feed_run-2.result (c.feed_run-2.ensures.given (map speed_second ss) h.over)
      ∙ ap (λ (k : Crew). overs_with c.args.self.now.over.limit ss ++ option_to_list (option_map {T = Over} {U = OverWith} (λ over. record { over = over; begin = k; end = c.args.self.now.last }) c.feed_run-2.result)) (sym c.unwrap_or-2.ensures);
  stands = λ ss h.
      stands-on c.args.self.now ss h c.args.first c.args.count c.args.speed c.args.crew c.requires.some _
      (subst (λ (b : Bool). bare_feed.CountsDriverSeconds c.feed_run.new.self (map driver_second ss ++ all_bare c.args.first c.args.count b)) c.is_driven_bare-is_bare.ensures (c.feed_run.ensures.fed (map driver_second ss) h.bare))
      (c.feed_run-2.ensures.fed (map speed_second ss) h.over) c.feed_run-2.ensures.limit
      (c.begin_of-self.ensures ∙ ap (λ (b : Bool). cond b (Some (unwrap_or c.args.self.now.bare_begin c.args.crew)) None) c.is_driven_bare-is_bare.ensures)
      (c.begin_of-self-2.ensures ∙ ap (λ (l : ℕ). cond (nat_lt l c.args.speed) (Some (unwrap_or c.args.self.now.over_begin c.args.crew)) None) c.requires.limit)
      refl;
  limit = c.feed_run-2.ensures.limit;
}

pub returns-clause-watches : goal.returns-clause-watches
returns-clause-watches c =
    let w = c.requires.watches in
    record {
      seconds = w.seconds ++ seconds_with c.args.first c.args.count c.args.speed c.args.crew;
      stands = (returns-clause-fed c).stands w.seconds w.stands;
      bare_next = c.feed_run.ensures.next;
      over_next = c.feed_run-2.ensures.next;
      late = late-on w.seconds c.args.first c.args.count c.args.speed c.args.crew c.requires.low w.late;
    }

-- BEHIND
pub returns-clause-bare : goal.returns-clause-bare
returns-clause-bare c =
    let w = c.requires.watches in
    bare-some (map driver_second w.seconds) (all_bare c.args.first c.args.count c.is_driven_bare-is_bare.result) (drivers-late w.seconds w.late) (bare-row c.args.first c.args.count c.is_driven_bare-is_bare.result c.requires.low)
    c.feed_run.result (c.feed_run.ensures.given (map driver_second w.seconds) w.stands.bare)

pub returns-clause-over : goal.returns-clause-over
returns-clause-over c =
    let w = c.requires.watches in
    over-some c.args.self.now.over.limit (map speed_second w.seconds) (at_speed c.args.first c.args.count c.args.speed) (speeds-late w.seconds w.late) (speed-row c.args.first c.args.count c.args.speed c.requires.low)
    c.feed_run-2.result (c.feed_run-2.ensures.given (map speed_second w.seconds) w.stands.over)
