use Rattle.std.proofs.Common.{rules, lit<, length, ◌*◌, ◌≡◌, ℕ, min, ◌+◌, ◌<◌, ◌∙◌, List, Some, Bool, true, sym, ap, subst, arith}
use Rattle.std.specs.Prelude.{is_err}
use Rattle.tach_media.proofs.Runs.{at_image}
use Rattle.tach_media.specs.Plan.{Pieces, PutsBy}
use Rattle.tach_media.proofs.Plans.{puts_by_unread}
use Rattle.gated_ring.specs.Ring.{Shape, place_of, pointer, taken}
use Rattle.unit_model.specs.declared.layout.TheConstants.{DAYS, DAY_SLOTS, DAY_SLOT_SIZE, IMAGE_SIZE}
use Rattle.unit_model.specs.Image.{day_ring}
use Rattle.unit_minutes.specs.Image.{IsNotes}
use Rattle.unit_minutes.specs.Minute.{notes_by, notes_begun}
use Rattle.unit_minutes.specs.Plans.{renewing}
use Rattle.unit_minutes.proofs.Beginning.{further_few}
use Rattle.unit_minutes.proofs.Told.{told}
use Rattle.unit_minutes.proofs.Renewing.{index_as, renew_puts}
use Rattle.unit_minutes.proofs.journal.Journal.renew.Goals as goal

pub plan_entry-requires : goal.plan_entry-requires
plan_entry-requires g c =
    let days = c.self.inside.days in
    let ring : days ≡ day_ring = c.self.invariant.days_are in
    let index = c.in_ok-room.room.index in
    let plan = c.turning-plan.result in
    let head : length c.new_head-head.result ≡ 20 = ap length c.new_head-head.ensures in
    let place : place_of days index ≡ DAYS.place + 4 + index * DAY_SLOT_SIZE = ap (λ (r : Shape). place_of r index) ring in
    let base : days.base ≡ DAYS.place = ap (λ (r : Shape). r.base) ring in
    let width : days.width ≡ DAY_SLOT_SIZE = ap (λ (r : Shape). r.width) ring in
    let count : days.count ≡ DAY_SLOTS = ap (λ (r : Shape). r.count) ring in
    let pointer_width : days.pointer_width ≡ 4 = ap (λ (r : Shape). r.pointer_width) ring in
    let gate : days.gate ≡ 0 = ap (λ (r : Shape). r.gate) ring in
    let from : plan.from ≡ 0 = ap (λ (p : Pieces). p.from) c.turning-plan.ensures.plan in
    let end : plan.end ≡ IMAGE_SIZE = ap (λ (p : Pieces). p.end) c.turning-plan.ensures.plan in (
      lit< tt,
      (
        c.in_ok-room.ensures.below,
        (
          omega arith,
          (
            record { gate = omega arith; width = omega arith; short = omega arith; at_once = omega arith },
            record { room = omega (arith, c.turning-plan.ensures.length); from = omega arith; end = omega (arith, c.in_ok-room.ensures.below) },
          ),
        ),
      ),
    )

pub returns-in_err-room-clause-puts : goal.returns-in_err-room-clause-puts
returns-in_err-room-clause-puts g c =
    let failed : is_err c.from_residual.result ≡ true = search rules in
    subst (λ (b : Bool). PutsBy (g.M.Medium.state c.args.unit.now) (g.M.Medium.state c.room.new.medium) b 5 12 (renewing c.args.self.now c.args.coming)) (sym failed) (puts_by_unread 5 12 (renewing c.args.self.now c.args.coming) c.in_err-room.ensures.reads)

pub returns-in_err-put_pieces-clause-puts : goal.returns-in_err-put_pieces-clause-puts
returns-in_err-put_pieces-clause-puts g c =
    let e = c.in_ok-room.ensures in
    let failed : is_err c.from_residual-in_err-put_pieces.result ≡ true = search rules in
    subst (λ (b : Bool). PutsBy (g.M.Medium.state c.args.unit.now) (g.M.Medium.state c.put_pieces.new.medium) b 5 12 (renewing c.args.self.now c.args.coming)) (sym failed)
    (renew_puts c.args.self.now c.args.coming c.self.inside.days c.new_head-head.result c.in_ok-room.room c.turning-plan.result c.plan_entry.new.plan c.add_further-count.new.plan
    c.self.invariant.days_are c.new_head-head.ensures c.turning-plan.ensures.plan c.plan_entry.ensures.plan c.add_further-count.ensures.plan e.reads c.requires.known e.last e.index e.used c.in_err-put_pieces.ensures.puts)

pub returns-clause-puts : goal.returns-clause-puts
returns-clause-puts g c =
    let e = c.in_ok-room.ensures in
    renew_puts c.args.self.now c.args.coming c.self.inside.days c.new_head-head.result c.in_ok-room.room c.turning-plan.result c.plan_entry.new.plan c.add_further-count.new.plan
    c.self.invariant.days_are c.new_head-head.ensures c.turning-plan.ensures.plan c.plan_entry.ensures.plan c.add_further-count.ensures.plan e.reads c.requires.known e.last e.index e.used c.in_ok-put_pieces.ensures.puts

pub returns-clause-notes : goal.returns-clause-notes
returns-clause-notes g c =
    let coming = c.args.coming in
    let days = c.self.inside.days in
    let old = g.M.Medium.state c.args.unit.now in
    let index = c.in_ok-room.room.index in
    let index_is : (x : List ℕ) → old.image ≡ Some x → index ≡ taken day_ring x = λ x was. index_as days index x c.self.invariant.days_are (at_image (λ x. pointer days x < days.count → index ≡ taken days x) was c.in_ok-room.ensures.index) (at_image (λ x. pointer day_ring x < DAY_SLOTS) was c.requires.known) in
    told old.image (λ x. pointer day_ring x < DAY_SLOTS) (λ x. _ ≡ notes_begun (taken day_ring x) (min (c.args.self.now.day_count + 1) DAY_SLOTS) coming) c.requires.known (λ x was known.
    c.on_new_day-self-inside.ensures ∙ (λ i. notes_by (index_is x was i) (min ((c.self.view_is i).day_count + 1) DAY_SLOTS) coming (c.add_further-count.ensures.count i)))

pub invariant_of-self : goal.invariant_of-self
invariant_of-self g c =
    let fits = c.requires.coming in
    record {
      days_are = c.self.invariant.days_are;
      notes = subst IsNotes (sym c.on_new_day-self-inside.ensures) (record {
        kept = fits.small;
        odometer = fits.odometer;
        index = omega (arith, ap (λ (r : Shape). r.count) c.self.invariant.days_are, c.in_ok-room.ensures.below);
        count = omega (arith, c.add_further-count.ensures.count, further_few c.args.coming);
        driver = fits.driver;
        codriver = fits.codriver;
        stray = λ s is. absurd (cc);
        day_count = omega arith;
        no_day = λ none. absurd (omega (arith, fits.low, none));
      });
    }
