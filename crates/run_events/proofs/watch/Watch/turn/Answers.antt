use Rattle.std.proofs.Common.{◌≡◌, ◌++◌, ◌+◌, true, false, Bool, ℕ, Option, List, sym, subst, arith, rules}
use Rattle.std.specs.Prelude.{is_err}
use Rattle.tach_media.proofs.Runs.{ok_gives, cause_after, on_ok}
use Rattle.event_model.specs.Spans.{SpeedSecond, at_speed}
use Rattle.speed_store.specs.Feeding as minute
use Rattle.unit_events.proofs.Calling.{journal-then}
use Rattle.run_speeds.proofs.Blocks.{carries-then}
use Rattle.run_events.specs.Blocks.{KnowsNewest, IsWatchedOn}
use Rattle.run_events.proofs.Minutes.{watches-with, fed-with}
use Rattle.run_events.proofs.Newest.{knows-left, watches-newest, fed-newest}
use Rattle.run_events.proofs.Behind.{late-block, first-on, behind-moments, behind-noted, put-carries}
use Rattle.run_events.proofs.NoteSpeeds.{ended-leaves}
use Rattle.run_events.proofs.watch.Watch.turn.Goals as goal

pub feed-ended-requires-clause-watches : goal.feed-ended-requires-clause-watches
feed-ended-requires-clause-watches g c = watches-with c.args.self.now c.feed-block.new.self c.args.seconds.first c.requires.watch.watches.events

pub put_block-requires-clause-time : goal.put_block-requires-clause-time
put_block-requires-clause-time g c = late-block c.feed-block.result (c.args.seconds.first + c.args.seconds.count) c.feed-block.ensures.time (omega (arith, c.requires.seconds.low, c.requires.seconds.some))

pub note_ended-requires-clause-works : goal.note_ended-requires-clause-works
note_ended-requires-clause-works g c = c.in_ok-newest.ensures.cause.works

-- ---- what is watched then

abbrev fed-speeds : (kept : List ℕ) (first n speed : ℕ) (fed after : List ℕ) → Type 0
fed-speeds kept first n speed fed after = (after ≡ fed) × ((seconds : List SpeedSecond) → minute.KeepsSpeedsOf kept seconds first → minute.KeepsSpeedsOf fed (seconds ++ at_speed first n speed) (first + n))

follows-then : (kept : List ℕ) (first n speed : ℕ) (fed after : List ℕ) → fed-speeds kept first n speed fed after → minute.Follows kept first → minute.Follows after (first + n)
follows-then kept first n speed fed after h f = subst (λ (l : List ℕ). minute.Follows l (first + n)) (sym h.0) (f.0 ++ at_speed first n speed, h.1 f.0 f.1)

stands-then : (kept : List ℕ) (first n speed : ℕ) (fed after : List ℕ) → fed-speeds kept first n speed fed after → (seconds : List SpeedSecond) → minute.KeepsSpeedsOf kept seconds first → minute.KeepsSpeedsOf after (seconds ++ at_speed first n speed) (first + n)
stands-then kept first n speed fed after h seconds stands = subst (λ (l : List ℕ). minute.KeepsSpeedsOf l (seconds ++ at_speed first n speed) (first + n)) (sym h.0) (h.1 seconds stands)

pub returns-in_err-newest-clause-watches : goal.returns-in_err-newest-clause-watches
returns-in_err-newest-clause-watches g c = record {
  events = c.feed-ended.ensures.watches;
  speeds = follows-then c.args.self.now.speeds c.args.seconds.first c.args.seconds.count c.args.seconds.speed c.feed-block.new.self c.feed-ended.new.self.speeds (c.feed-ended.ensures.speeds, c.feed-block.ensures.fed) c.requires.watch.watches.speeds;
}

pub returns-clause-watches : goal.returns-clause-watches
returns-clause-watches g c = record {
  events = watches-newest c.feed-ended.new.self c.in_ok-newest.newest (c.args.seconds.first + c.args.seconds.count) c.feed-ended.ensures.watches;
  speeds = follows-then c.args.self.now.speeds c.args.seconds.first c.args.seconds.count c.args.seconds.speed c.feed-block.new.self c.feed-ended.new.self.speeds (c.feed-ended.ensures.speeds, c.feed-block.ensures.fed) c.requires.watch.watches.speeds;
}

pub returns-in_err-newest-clause-watched : goal.returns-in_err-newest-clause-watched
returns-in_err-newest-clause-watched g c =
    let failed : true ≡ is_err c.from_residual.result = search rules in
    subst (λ (b : Bool). IsWatchedOn b c.args.self.now c.feed-ended.new.self c.args.seconds.first c.args.seconds.count c.args.seconds.speed c.args.crew (g.M.Medium.state c.args.unit.now) (g.M.Medium.state c.put_block.new.unit)) failed
    (record {
      ended = c.feed-ended.result;
      block = c.feed-block.result;
      fed = fed-with c.args.self.now c.feed-block.new.self c.feed-ended.new.self c.args.seconds.first c.args.seconds.count c.args.seconds.speed c.args.crew c.feed-ended.result c.feed-ended.ensures.fed;
      minute_fed = record {
        stands = stands-then c.args.self.now.speeds c.args.seconds.first c.args.seconds.count c.args.seconds.speed c.feed-block.new.self c.feed-ended.new.self.speeds (c.feed-ended.ensures.speeds, c.feed-block.ensures.fed);
        blocks = c.feed-block.ensures.given;
      };
      last = c.feed-block.ensures.time;
      noted = λ fine. absurd (cc);
      moments = first-on c.feed-block.result c.feed-ended.result c.in_err-newest.ensures.moments;
      speeds =
          put-carries c.feed-block.result true (g.M.Medium.state c.args.unit.now) (g.M.Medium.state c.put_block.new.unit) (g.met.M.Medium.coherent c.args.unit.now) (g.met.M.Medium.coherent c.put_block.new.unit)
          c.feed-block.ensures.whole c.in_err-newest.ensures.moments c.in_err-newest.ensures.cause.works (λ fine. absurd (cc));
    })

pub returns-clause-watched : goal.returns-clause-watched
returns-clause-watched g c =
    let p = c.in_ok-newest.ensures in
    record {
      ended = c.feed-ended.result;
      block = c.feed-block.result;
      fed =
          fed-newest c.feed-ended.new.self c.in_ok-newest.newest c.args.self.now c.args.seconds.first c.args.seconds.count c.args.seconds.speed c.args.crew c.feed-ended.result
          (fed-with c.args.self.now c.feed-block.new.self c.feed-ended.new.self c.args.seconds.first c.args.seconds.count c.args.seconds.speed c.args.crew c.feed-ended.result c.feed-ended.ensures.fed);
      minute_fed = record {
        stands = stands-then c.args.self.now.speeds c.args.seconds.first c.args.seconds.count c.args.seconds.speed c.feed-block.new.self c.feed-ended.new.self.speeds (c.feed-ended.ensures.speeds, c.feed-block.ensures.fed);
        blocks = c.feed-block.ensures.given;
      };
      last = c.feed-block.ensures.time;
      noted = λ fine.
          behind-noted c.feed-block.result c.feed-ended.result (g.M.Medium.state c.args.unit.now) (g.M.Medium.state c.put_block.new.unit) (g.M.Medium.state c.note_ended.new.unit) p.moments p.put
          (ok_gives c.note_ended.result c.note_ended.ensures.noted fine);
      moments = behind-moments c.feed-block.result c.feed-ended.result (g.M.Medium.state c.args.unit.now) (g.M.Medium.state c.put_block.new.unit) (g.M.Medium.state c.note_ended.new.unit) p.moments p.put c.note_ended.ensures.moments;
      speeds =
          carries-then (g.M.Medium.state c.args.unit.now) (g.M.Medium.state c.put_block.new.unit) (g.M.Medium.state c.note_ended.new.unit) c.feed-block.result false (is_err c.note_ended.result) (λ fine. absurd (cc))
          (put-carries c.feed-block.result false (g.M.Medium.state c.args.unit.now) (g.M.Medium.state c.put_block.new.unit) (g.met.M.Medium.coherent c.args.unit.now) (g.met.M.Medium.coherent c.put_block.new.unit)
          c.feed-block.ensures.whole p.moments p.cause.works (λ fine. p.put))
          (ended-leaves c.feed-ended.result (g.M.Medium.state c.put_block.new.unit) (g.M.Medium.state c.note_ended.new.unit) (g.met.M.Medium.coherent c.put_block.new.unit) c.put_block.ensures.unit c.note_ended.ensures.moments);
    }

pub returns-in_err-newest-clause-journal : goal.returns-in_err-newest-clause-journal
returns-in_err-newest-clause-journal g c = c.in_err-newest.ensures.journal

pub returns-clause-journal : goal.returns-clause-journal
returns-clause-journal g c = journal-then (g.met.M.Medium.coherent c.args.unit.now) (g.met.M.Medium.coherent c.put_block.new.unit) c.requires.unit.works c.put_block.ensures.journal c.note_ended.ensures.journal

pub returns-clause-cause : goal.returns-clause-cause
returns-clause-cause g c = cause_after c.in_ok-newest.ensures.cause c.note_ended.ensures.cause

-- ---- the newest block, behind all

pub put_block-requires-clause-newest : goal.put_block-requires-clause-newest
put_block-requires-clause-newest g c = subst (λ (o : Option ℕ). KnowsNewest o (g.M.Medium.state c.args.unit.now)) (sym c.feed-ended.ensures.newest) c.requires.unit.newest

pub returns-clause-newest : goal.returns-clause-newest
returns-clause-newest g c =
    on_ok c.note_ended.result (λ fine.
    knows-left c.in_ok-newest.newest (g.M.Medium.state c.put_block.new.unit) (g.M.Medium.state c.note_ended.new.unit) (g.met.M.Medium.coherent c.put_block.new.unit) (g.met.M.Medium.coherent c.note_ended.new.unit)
    c.in_ok-newest.ensures.cause.works
    (ended-leaves c.feed-ended.result (g.M.Medium.state c.put_block.new.unit) (g.M.Medium.state c.note_ended.new.unit) (g.met.M.Medium.coherent c.put_block.new.unit) c.put_block.ensures.unit c.note_ended.ensures.moments)
    c.in_ok-newest.ensures.newest)
