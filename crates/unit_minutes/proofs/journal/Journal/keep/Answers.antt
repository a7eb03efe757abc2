use Rattle.std.proofs.Common.{◌≡◌, ◌<◌, IfSome, OnOk, sym, subst, arith}
use Rattle.std.specs.Prelude.{is_err}
use Rattle.tach_media.proofs.Runs.{settled_now, on_ok, ok_gives}
use Rattle.tach_media.specs.Plan.{PutsBy}
use Rattle.unit_model.proofs.Sized.{unit_sized}
use Rattle.unit_minutes.specs.Coming.{Coming, IsComing}
use Rattle.unit_minutes.specs.Kept.{keeping_of}
use Rattle.unit_minutes.specs.Minute.{notes_after}
use Rattle.unit_minutes.specs.Plans.{most_kept, keeping}
use Rattle.unit_minutes.proofs.KeepPlan.{keep_moments, keep_words, keep_kept, keep_days, keep_agrees}
use Rattle.unit_minutes.proofs.journal.Journal.keep.Goals as goal

pub write_minute-requires-clause-later : goal.write_minute-requires-clause-later
write_minute-requires-clause-later g c = subst (λ (m : Coming). c.args.self.now.kept < m.minute) (sym c.coming_of.ensures.coming) c.requires.may.later

pub returns : goal.returns
returns g c =
    let j = c.args.self.now in
    let k = c.args.kept.now in
    let q = c.requires in
    let done = c.write_minute.result in
    let next = c.write_minute.new.self in
    let U = g.M.Medium.state c.args.unit.now in
    let V = g.M.Medium.state c.write_minute.new.unit in
    let w = c.write_minute.ensures in
    let fits = subst IsComing c.coming_of.ensures.coming c.coming_of.ensures.fits in
    let sized = unit_sized (g.met.M.Medium.coherent c.args.unit.now) q.ready.unit in
    let puts : PutsBy U V (is_err done) 3 (most_kept j.kept k.minute) (keeping_of j k) =
    subst (λ (m : Coming). PutsBy U V (is_err done) 3 (most_kept j.kept m.minute) (keeping j m)) c.coming_of.ensures.coming w.puts in
    record {
      kept = on_ok done (λ fine. record {
        notes = ok_gives done (subst (λ (m : Coming). OnOk done ((next.kept ≡ m.minute) × (next.odometer ≡ m.odometer))) c.coming_of.ensures.coming w.kept) fine;
        agrees =
            keep_agrees j w.shape k fits q.may.later _ _ _ sized q.ready.agrees puts fine next
            (subst (λ (m : Coming). IfSome U.image (λ x. next ≡ notes_after j m x)) c.coming_of.ensures.coming (ok_gives done w.notes fine));
        kept = keep_kept j w.shape k fits q.may.later _ _ _ sized q.ready.agrees puts fine;
        days = keep_days j w.shape k fits q.may.later _ _ _ sized q.ready.agrees puts fine;
        settled = settled_now w.puts fine (omega arith);
      });
      same = w.same;
      puts = puts;
      moments = keep_moments j w.shape k fits q.may.later _ _ _ sized q.ready.agrees puts;
      words = keep_words j w.shape k fits q.may.later _ _ _ sized q.ready.agrees puts;
      cause = w.puts.cause;
    }
