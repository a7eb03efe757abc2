-- The calls of one write, where the image tells what is kept.
use Rattle.std.proofs.Common.{◌≡◌, ⊎_elim, ℕ, ◌+◌, ◌<◌, ◌≤◌, List, [], ◌∷◌, length, refl, sym, ◌∙◌, ap, subst, arith}
use Rattle.tach_media.specs.Medium.{put}
use Rattle.tach_media.proofs.Images.{put_outside, outside_same, part_before}
use Rattle.tach_media.specs.Plan.{put_all, IsPartway}
use Rattle.tach_media.proofs.Plans.{partway_outside, puts_outside}
use Rattle.card_model.specs.Bytes.{number, two_bytes}
use Rattle.card_model.specs.Days.{Day, total}
use Rattle.card_model.specs.Changes.{with_newest, with_km}
use Rattle.card_model.specs.Image.{StringShape, oldest_pointer, newest_pointer, IsPlace, IsPointer, spot, at}
use Rattle.card_days.specs.declared.head.DayHead.{DayHead}
use Rattle.card_days.specs.declared.head.Tail.{Tail}
use Rattle.card_days.specs.Held.{Held, IsInBounds, Knows, IsNewestHead, oldest_at}
use Rattle.card_days.specs.Moments.{IfKnown}
use Rattle.card_days.specs.Plans.{mend_pieces, km_pieces, tail_km}
use Rattle.card_days.specs.Steps.{SameDays, IsDropMended, IsMeasured, IsMeasuring, KnowsMeasured}
use Rattle.card_days.proofs.Inside.{AreInside, two_in}
use Rattle.card_days.proofs.Matching.{matches, begins, oldest_is}
use Rattle.card_days.proofs.Mending.{first_mended, while_mending, measured_one, while_measuring}
use Rattle.card_days.proofs.Rounds.{spot_is}

-- another distance, and nothing else
total_km : (km : ℕ) (days : List Day) → total (with_newest (with_km km) days) ≡ total days
total_km km [] = refl
total_km km (d ∷ []) = refl
total_km km (d ∷ e ∷ ds) = omega (arith, total_km km (e ∷ ds))

newest_km : (t : Tail) (km : ℕ) (days : List Day) → IsNewestHead t.head t.latest days → IsNewestHead (tail_km t km).head t.latest (with_newest (with_km km) days)
newest_km t km [] is = tt
newest_km t km (d ∷ []) is = (ap (λ (h : DayHead). record h { km = record { 0 = km } }) is.0, is.1)
newest_km t km (d ∷ e ∷ []) is = newest_km t km (e ∷ []) is
newest_km t km (d ∷ e ∷ f ∷ ds) is = newest_km t km (e ∷ f ∷ ds) is

-- without a write
pub same_known : (v : Held) (x : List ℕ) → IfKnown v (SameDays v.shape) x x
same_known v x = record {
  outside = outside_same v.shape.base (4 + v.shape.size) x;
  told = λ days k. record { outside = outside_same v.shape.base (4 + v.shape.size) x; list = λ all h. h };
}

pub none_mended : (v : Held) (x : List ℕ) → v.tail.used ≡ 0 → (days : List Day) → Knows v x days → IsDropMended v.shape days x x
none_mended v x none [] k = refl
none_mended v x none (d ∷ ds) k = absurd (omega (arith, none, k.used))

module _ (v : Held) (is : IsInBounds v) (x : List ℕ) (inside : v.shape.base + (4 + v.shape.size) ≤ length x) where
  abbrev r : StringShape
  r = v.shape

  -- a number on the string leaves the newest pointer
  newest_same : (p n : ℕ) → p + 2 ≤ r.size → newest_pointer r (put (at r p) (two_bytes n) x) ≡ newest_pointer r x
  newest_same p n fits = ap number (part_before (at r p) 2 (r.base + 2) 2 x (put (at r p) (two_bytes n) x) (put_outside (at r p) (two_bytes n) x (omega (arith, inside, fits))) (omega arith))

  fits : (p : ℕ) → IsPointer r.size p → p + 2 ≤ r.size
  fits p pointer = omega (arith, pointer.below, pointer.even, is.shape.even)

  -- the length before the oldest day
  abbrev o : ℕ
  o = oldest_at v v.tail.used

  o_pointer : IsPointer r.size o
  o_pointer = (oldest_is v is v.tail.used is.most is.even).1

  o_is : (days : List Day) → Knows v x days → o ≡ oldest_pointer r x
  o_is days k =
      let b = begins v is x inside [] days (matches v x days k) in
      ap (λ (u : ℕ). oldest_at v u) k.used ∙ ⊎_elim (λ same. omega (arith, same)) (λ far. absurd (omega (arith, far, k.holds.oldest.below))) b.0

  mend_inside : AreInside r (mend_pieces v)
  mend_inside = (two_in v is o 0 o_pointer, tt)

  pub mended_same : IfKnown v (SameDays r) x (put_all (mend_pieces v) x)
  mended_same = record {
    outside = puts_outside r.base (4 + r.size) (mend_pieces v) mend_inside x inside;
    told = λ days k. first_mended r is.shape x inside o o_pointer 0 (λ pointer. o_is days k);
  }

  pub mending_same : (c : List ℕ) → IsPartway (mend_pieces v) x c → IfKnown v (SameDays r) x c
  mending_same c part = record {
    outside = partway_outside r.base (4 + r.size) (mend_pieces v) mend_inside x c inside part;
    told = λ days k. ⊎_elim (λ here. while_mending r is.shape x inside o o_pointer 0 (λ pointer. o_is days k) c here) (λ none. absurd none) part;
  }

  pub mended_is : 0 < v.tail.used → (days : List Day) → Knows v x days → IsDropMended r days x (put_all (mend_pieces v) x)
  mended_is some [] k = absurd (omega (arith, some, k.used))
  mended_is some (d ∷ ds) k = ap (λ (p : ℕ). put (at r p) (two_bytes 0) x) (o_is (d ∷ ds) k)

  pub mended_knows : (days : List Day) → Knows v x days → Knows v (put_all (mend_pieces v) x) days
  mended_knows days k = record {
    holds = (first_mended r is.shape x inside o o_pointer 0 (λ pointer. o_is days k)).list days k.holds;
    place = k.place ∙ sym (newest_same o 0 (fits o o_pointer));
    used = k.used;
    newest = k.newest;
  }

  -- the newest day's distance
  module _ (km : ℕ) where
    abbrev q : ℕ
    q = spot r.size v.tail.head.place 10

    field : IsPlace r.size v.tail.head.place 10 q × IsPointer r.size q
    field = spot_is r.size v.tail.head.place 10 is.shape.even is.pointer refl (omega (arith, is.shape.low))

    km_inside : AreInside r (km_pieces v km)
    km_inside = (two_in v is q km field.1, tt)

    pub measured_known : IfKnown v (IsMeasured r km) x (put_all (km_pieces v km) x)
    measured_known = record {
      outside = puts_outside r.base (4 + r.size) (km_pieces v km) km_inside x inside;
      told = λ days k. measured_one r is.shape x inside q field.1 km v.tail.head.place (λ pointer. k.place) is.pointer field.0;
    }

    pub measuring_known : (c : List ℕ) → IsPartway (km_pieces v km) x c → IfKnown v (IsMeasuring r km) x c
    measuring_known c part = record {
      outside = partway_outside r.base (4 + r.size) (km_pieces v km) km_inside x c inside part;
      told = λ days k. ⊎_elim (λ here. while_measuring r is.shape x inside q field.1 km v.tail.head.place (λ pointer. k.place) is.pointer field.0 c here) (λ none. absurd none) part;
    }

    pub measured_knows : (next : Held) → next ≡ record { shape = r; tail = tail_km v.tail km } → KnowsMeasured v next km x (put_all (km_pieces v km) x)
    measured_knows next next_is days k some = subst (λ (h : Held). Knows h (put_all (km_pieces v km) x) (with_newest (with_km km) days)) (sym next_is) (record {
      holds = (measured_one r is.shape x inside q field.1 km v.tail.head.place (λ pointer. k.place) is.pointer field.0).list days k.holds some;
      place = k.place ∙ sym (newest_same q km (fits q field.1));
      used = k.used ∙ sym (total_km km days);
      newest = newest_km v.tail km days k.newest;
    })
