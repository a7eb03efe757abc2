-- The figures of a day add up.
use Rattle.std.proofs.Common.{◌≡◌, ℕ, ◌+◌, ◌&&◌, ◌||◌, not, Bool, true, false, List, [], ◌∷◌, length, map, refl, arith}
use Rattle.std.specs.Prelude.{if◌then◌else◌}
use Rattle.std.proofs.lemmas.List.Sums.{sum_by-cons}
use Rattle.activity_codec.specs.declared.values.Activity.{Activity}
use Rattle.activity_codec.specs.declared.values.Activity.TheVariants as activity
use Rattle.activity_codec.specs.declared.values.Slot.{Slot}
use Rattle.activity_codec.specs.Activity.{same_activity}
use Rattle.view_model.specs.declared.UnitShown.{UnitShown}
use Rattle.view_model.specs.declared.Viewed.{Viewed}
use Rattle.view_model.specs.declared.marks.Gap.{Gap}
use Rattle.slot_bars.specs.declared.seen.Seen.{Seen}
use Rattle.slot_bars.specs.Seeing.{is_in_gap, state_in, slot_seen}
use Rattle.day_totals.specs.declared.figures.Figure.{Figure}
use Rattle.day_totals.specs.declared.figures.Figure.TheVariants.{Drive, Work, Available, Rest, Unknown, In}
use Rattle.day_totals.specs.Figures.{counts, total, out_total, AreSeen}

one_if : Bool → ℕ
one_if b = if b then 1 else 0

more : (figure : Figure) (m : Viewed Seen) (minutes : List (Viewed Seen)) → total figure (m ∷ minutes) ≡ one_if (counts figure m.shown) + total figure minutes
unfolding one_if
more figure m minutes = sum_by-cons (λ (v : Viewed Seen). if counts figure v.shown then 1 else 0) m minutes

out_more : (m : Viewed Seen) (minutes : List (Viewed Seen)) → out_total (m ∷ minutes) ≡ one_if (m.shown.known && not m.shown.present) + out_total minutes
unfolding one_if
out_more m minutes = sum_by-cons (λ (v : Viewed Seen). if v.shown.known && not v.shown.present then 1 else 0) m minutes

one_activity : (act : Activity) (present : Bool)
    → one_if (present && same_activity act activity.Driving) + one_if (present && same_activity act activity.Work)
    + one_if (present && same_activity act activity.Available) + one_if (present && same_activity act activity.Rest) ≡ one_if present
unfolding one_if
one_activity activity.Rest true = refl
one_activity activity.Available true = refl
one_activity activity.Work true = refl
one_activity activity.Driving true = refl
one_activity act false = refl

pub with_card : (minutes : List (Viewed Seen)) → total Drive minutes + total Work minutes + total Available minutes + total Rest minutes ≡ total In minutes
with_card [] = refl
with_card (m ∷ minutes) =
    omega (arith, more Drive m minutes, more Work m minutes, more Available m minutes, more Rest m minutes, more In m minutes, one_activity m.shown.act m.shown.present, with_card minutes)

one_minute : (present known : Bool) → (known || not present) ≡ true → one_if present + one_if (not known) + one_if (known && not present) ≡ 1
unfolding one_if
one_minute true true is = refl
one_minute true false is = absurd (cc)
one_minute false true is = refl
one_minute false false is = refl

pub all_minutes : (minutes : List (Viewed Seen)) → AreSeen minutes → total In minutes + total Unknown minutes + out_total minutes ≡ length minutes
all_minutes [] seen = refl
all_minutes (m ∷ minutes) seen =
    omega (arith, more In m minutes, more Unknown m minutes, out_more m minutes, one_minute m.shown.present m.shown.known seen.0, all_minutes minutes seen.1)

pub are_seen : (gaps : List Gap) (slot : Slot) (minutes : List (Viewed UnitShown)) → AreSeen (map (slot_seen gaps slot) minutes)
are_seen gaps slot [] = tt
are_seen gaps slot (m ∷ minutes) = (by (state_in slot m.shown).present (not (is_in_gap gaps m.minute)), are_seen gaps slot minutes)
  where
    by : (present clear : Bool) → ((present || clear) || not present) ≡ true
    by true clear = refl
    by false true = refl
    by false false = refl
