-- The moments of a `keep` that begins a day, and what it leaves.
use Rattle.std.proofs.Common.{◌≡◌, ◌≢◌, ⊎_elim, ℕ, ◌+◌, ◌*◌, ◌/◌, ◌%◌, ◌<◌, ◌≤◌, Bool, true, false, cond, List, [], ◌∷◌, ◌++◌, length, length-append, append_assoc, refl, sym, ◌∙◌, ap, subst, arith, lit≤, lit<, Some, IfSome}
use Rattle.std.specs.Prelude.{◌==◌, min}
use Rattle.std.specs.Int.{to_be_bytes, w16, w32}
use Rattle.card_layout.proofs.Numbers.{big_number-big_bytes}
use Rattle.tach_media.specs.Medium.{State, Reads}
use Rattle.tach_media.proofs.Runs.{at_image, if_told}
use Rattle.tach_media.specs.Plan.{Piece, Pieces, piece, more, none, put_all, IsPartway, PutsAll, PutsBy}
use Rattle.tach_media.proofs.Plans.{put_all-append, partway_either, puts_by}
use Rattle.gated_ring.specs.declared.room.Room.{Room}
use Rattle.gated_ring.specs.Ring.{Shape, IsShape, size_of, pointer, PointsInside, is_there, taken, gate_number}
use Rattle.gated_ring.specs.Change.{IsAdding, IsAdded, pointer_writes}
use Rattle.gated_ring.specs.Plans.{placing_pieces, room_in}
use Rattle.gated_ring.proofs.Planned.{placing_length, placing_moment, placing_end, room_is}
use Rattle.unit_model.specs.declared.layout.TheConstants.{DAYS, DAY_COUNT, DAY_SLOTS, IMAGE_SIZE, LAST_KEPT, ODOMETER}
use Rattle.unit_model.specs.Days.{bare, minute_by}
use Rattle.unit_model.specs.Image.{day_ring, slot_place}
use Rattle.unit_model.specs.Changes.{changes, first_state}
use Rattle.unit_model.specs.Writing.{free_place, with_kept, with_words}
use Rattle.unit_model.proofs.Turning.{taken_below}
use Rattle.unit_minutes.specs.Coming.{Coming, IsComing}
use Rattle.unit_minutes.specs.Image.{Notes, Agrees}
use Rattle.unit_minutes.specs.Keeping.{IsKept, IsKeeping}
use Rattle.unit_minutes.specs.Minute.{new_head, further, notes_begun}
use Rattle.unit_minutes.proofs.Premises.{IsNoted}
use Rattle.unit_minutes.specs.DaysWith.{HasDays, AreBetween}
use Rattle.unit_minutes.specs.Plans.{word_pieces, counted, turning, beginning, renewing_at, renewing}
use Rattle.unit_minutes.proofs.Planned.{begun_put}
use Rattle.unit_minutes.proofs.Keeping.{changes_few}
use Rattle.unit_minutes.proofs.Closing.{turning_moment, is_turned}
use Rattle.unit_minutes.proofs.Beginning.{IsClosed, adding_moment, further_moment, kept_last, kept_days, kept_minutes, kept_decodes, besides_z, new_agrees}

day_shape : IsShape day_ring
day_shape = record { some = lit< tt; gate = lit≤ tt; pointer = lit≤ tt; holds = λ some. lit≤ tt; short = lit< tt }

-- how many writes these are
words_length : (p : ℕ) (ws : List ℕ) → length (word_pieces p ws) ≡ length ws
words_length p [] = refl
words_length p (w ∷ ws) = omega (arith, words_length (p + 2) ws)

pub counted_length : (i n : ℕ) (ws : List ℕ) → length (counted i n ws) ≡ length ws + 1
counted_length i n ws = omega (arith, length-append (word_pieces (free_place i n) ws) (piece (slot_place i + DAY_COUNT.place) (to_be_bytes w16 (n + length ws)) ∷ []), words_length (free_place i n) ws)

turning_few : (j : Notes) (odometer : ℕ) → length (turning j odometer) ≤ 4
turning_few j odometer = by (j.kept == 0) (j.kept % 1440 + 1 == 1440)
  where
    by : (a b : Bool) → length (piece ODOMETER.place (to_be_bytes w32 odometer) ∷ cond a [] (cond b [] (counted j.index j.count (changes (j.kept % 1440 + 1) j.bits.driver j.bits.codriver bare bare)))) ≤ 4
    by true b = omega arith
    by false true = omega arith
    by false false = omega (arith, counted_length j.index j.count (changes (j.kept % 1440 + 1) j.bits.driver j.bits.codriver bare bare), changes_few (j.kept % 1440 + 1) j.bits.driver j.bits.codriver bare bare)

module _ (j : Notes) (room : Room) (coming : Coming) where
  abbrev placing : List Piece
  placing = placing_pieces day_ring room (new_head coming)

  abbrev behind : List Piece
  behind = beginning room.index coming

  -- a slot begins with its gate, and there is something behind it
  placing_is : length placing ≡ cond room.used 1 0 + (1 + (pointer_writes room.last room.index + 1))
  placing_is = placing_length day_ring room (new_head coming)

  placing_bounds : (2 ≤ length placing) × (length placing ≤ 4)
  placing_bounds = by room.used (room.last == room.index) placing_is
    where
      by : (a b : Bool) → length placing ≡ cond a 1 0 + (1 + (cond b 0 1 + 1)) → (2 ≤ length placing) × (length placing ≤ 4)
      by true true is = (omega (arith, is), omega (arith, is))
      by true false is = (omega (arith, is), omega (arith, is))
      by false true is = (omega (arith, is), omega (arith, is))
      by false false is = (omega (arith, is), omega (arith, is))

  behind_is : length behind ≡ length (further coming) + 2
  behind_is = omega (arith, length-append (counted room.index 2 (further coming)) (piece LAST_KEPT.place (to_be_bytes w32 coming.minute) ∷ []), counted_length room.index 2 (further coming))

  pub renewing_few : (5 ≤ length (renewing_at j room coming)) × (length (renewing_at j room coming) ≤ 12)
  renewing_few =
      let sum : length (renewing_at j room coming) ≡ length (turning j coming.odometer) + (length placing + length behind) = omega (arith, length-append (turning j coming.odometer) (placing ++ behind), length-append placing behind) in (
        omega (arith, sum, placing_bounds.0, behind_is),
        omega (arith, sum, turning_few j coming.odometer, placing_bounds.1, behind_is, changes_few (coming.minute % 1440) (first_state (coming.minute % 1440) coming.bits.driver) (first_state (coming.minute % 1440) coming.bits.codriver) coming.bits.driver coming.bits.codriver),
      )

-- where the ring is that of the days, the new slot is the one that it takes
pub index_as : (r : Shape) (index : ℕ) (x : List ℕ) → r ≡ day_ring → (pointer r x < r.count → index ≡ taken r x) → pointer day_ring x < DAY_SLOTS → index ≡ taken day_ring x
index_as r index x ring is known = (subst (λ (s : Shape). pointer s x < s.count → index ≡ taken s x) ring is) known

-- the writes after the reads, by the plan as it grew
pub renew_puts : {old mid new : State} {failed : Bool} (j : Notes) (coming : Coming) (days : Shape) (head : List ℕ) (room : Room) (first next plan : Pieces) → days ≡ day_ring → head ≡ new_head coming
    → first ≡ more (none 0 IMAGE_SIZE) (turning j coming.odometer) → next ≡ more first (placing_pieces days room head) → plan ≡ more next (beginning room.index coming)
    → Reads old mid false → IfSome old.image (λ x. pointer day_ring x < DAY_SLOTS)
    → IfSome old.image (λ x. PointsInside days x → room.last ≡ pointer days x) → IfSome old.image (λ x. PointsInside days x → room.index ≡ taken days x) → IfSome old.image (λ x. room.used ≡ is_there days x room.index)
    → PutsAll mid new failed plan.pieces → PutsBy old new failed 5 12 (renewing j coming)
renew_puts {old} {mid} {new} {failed} j coming days head room first next plan ring head_is first_is next_is plan_is reads known last index used puts =
    puts_by (renewing_at j room coming) (renewing j coming) reads
    (if_told old.image (λ x. renewing j coming x ≡ renewing_at j room coming) (λ x was. sym (ap (λ (r : Room). renewing_at j r coming) (here x was))))
    puts_them (renewing_few j room coming).0 (renewing_few j room coming).1
  where
    whole : plan.pieces ≡ (turning j coming.odometer ++ placing_pieces days room head) ++ beginning room.index coming
    whole = ap (λ (p : Pieces). p.pieces) (plan_is ∙ ap (λ (p : Pieces). more p (beginning room.index coming)) (next_is ∙ ap (λ (p : Pieces). more p (placing_pieces days room head)) first_is))

    puts_them : PutsAll mid new failed (renewing_at j room coming)
    puts_them = subst (PutsAll mid new failed)
        (whole ∙ (λ t. (turning j coming.odometer ++ placing_pieces (ring t) room (head_is t)) ++ beginning room.index coming) ∙ append_assoc (turning j coming.odometer) (placing_pieces day_ring room (new_head coming)) (beginning room.index coming)) puts

    known_in : (x : List ℕ) → old.image ≡ Some x → PointsInside days x
    known_in x was = subst (λ (r : Shape). PointsInside r x) (sym ring) (at_image (λ x. pointer day_ring x < DAY_SLOTS) was known)

    here : (x : List ℕ) → old.image ≡ Some x → room ≡ room_in day_ring x
    here x was = subst (λ (r : Shape). room ≡ room_in r x) ring (room_is days x room (at_image (λ x. PointsInside days x → room.last ≡ pointer days x) was last (known_in x was))
        (at_image (λ x. PointsInside days x → room.index ≡ taken days x) was index (known_in x was)) (at_image (λ x. room.used ≡ is_there days x room.index) was used))

module _ (j : Notes) (x : List ℕ) (noted : IsNoted j x) (coming : Coming) (fits : IsComing coming) (later : j.kept / 1440 < coming.minute / 1440) where
  abbrev head : List ℕ
  head = new_head coming

  abbrev ws : List ℕ
  ws = further coming

  -- the image before the new day
  abbrev f : List ℕ
  f = put_all (turning j coming.odometer) x

  done : (known : pointer day_ring f < DAY_SLOTS) × IsClosed j.day_count j.kept coming x f known
  done = is_turned j x noted coming fits later

  abbrev known : pointer day_ring f < DAY_SLOTS
  known = done.0

  closed : IsClosed j.day_count j.kept coming x f known
  closed = done.1

  abbrev t : ℕ
  t = taken day_ring x

  index_is : t ≡ taken day_ring f
  index_is = sym (ap (λ (room : Room). room.index) closed.room)

  abbrev slot_pieces : List Piece
  slot_pieces = placing_pieces day_ring (room_in day_ring x) head

  placing_same : slot_pieces ≡ placing_pieces day_ring (room_in day_ring f) head
  placing_same = ap (λ (room : Room). placing_pieces day_ring room head) (sym closed.room)

  inside : DAYS.place + size_of day_ring ≤ length f
  inside = omega (arith, closed.sized)

  gate_open : gate_number day_ring head ≢ 0
  gate_open none =
      let is : gate_number day_ring head ≡ 86400 * (coming.minute / 1440) = big_number-big_bytes 4 (86400 * (coming.minute / 1440)) (omega (arith, fits.small)) in
      absurd (omega (arith, later, is, none))

  adding : (c : List ℕ) → IsPartway slot_pieces f c → IsAdding day_ring head f c
  adding c here = placing_moment day_ring day_shape f inside (taken day_ring f) (taken_below f known) head (lit≤ tt) (lit≤ tt) (is_there day_ring f (taken day_ring f)) refl (pointer day_ring f)
      (lit< tt) (λ inside. refl) (λ inside. refl) gate_open c (subst (λ (ps : List Piece). IsPartway ps f c) placing_same here)

  abbrev g : List ℕ
  g = put_all slot_pieces f

  added : IsAdded day_ring head f g
  added = placing_end day_ring day_shape f inside (taken day_ring f) (taken_below f known) head (lit≤ tt) (lit≤ tt) (is_there day_ring f (taken day_ring f)) refl (pointer day_ring f)
      (lit< tt) (λ inside. refl) (λ inside. refl) gate_open g (ap (λ (ps : List Piece). put_all ps f) placing_same)

  pub renewing_moment : (c : List ℕ) → IsPartway (renewing j coming x) x c → IsKeeping (minute_by coming.minute coming.bits.driver coming.bits.codriver) coming.odometer x c × AreBetween coming x c
  renewing_moment c here = ⊎_elim
      (turning_moment j x noted coming fits later c)
      (λ rest. ⊎_elim
      (λ part. adding_moment j.day_count j.kept coming fits later x f known closed c (adding c part))
      (λ part. further_moment j.day_count j.kept coming fits later x f known closed g added c (subst (λ (i : ℕ). IsPartway (beginning i coming) g c) index_is part))
      (partway_either slot_pieces (beginning t coming) f c rest))
      (partway_either (turning j coming.odometer) (slot_pieces ++ beginning t coming) x c here)

  abbrev z : List ℕ
  z = with_kept coming.minute (with_words (taken day_ring f) 2 ws g)

  pub renewed : put_all (renewing j coming x) x ≡ z
  renewed = put_all-append (turning j coming.odometer) (slot_pieces ++ beginning t coming) x ∙ put_all-append slot_pieces (beginning t coming) f
      ∙ ap (λ (i : ℕ). put_all (beginning i coming) g) index_is ∙ begun_put (taken day_ring f) coming g

  pub renewed_kept : IsKept (minute_by coming.minute coming.bits.driver coming.bits.codriver) x z
  renewed_kept = record {
    last = kept_last j.day_count j.kept coming fits later x f known closed g added;
    outside = besides_z j.day_count j.kept coming fits later x f known closed g added;
    minutes = kept_minutes j.day_count j.kept coming fits later x f known closed g added;
    decodes = kept_decodes j.day_count j.kept coming fits later x f known closed g added;
  }

  pub renewed_days : HasDays coming x z
  renewed_days = kept_days j.day_count j.kept coming fits later x f known closed g added

  pub renewed_agrees : Agrees (notes_begun t (min (j.day_count + 1) DAY_SLOTS) coming) z
  renewed_agrees = subst (λ (i : ℕ). Agrees (notes_begun i (min (j.day_count + 1) DAY_SLOTS) coming) z) (sym index_is)
      (new_agrees j.day_count j.kept coming fits later x f known closed g added)
