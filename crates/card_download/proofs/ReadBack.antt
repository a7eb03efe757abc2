-- The card file of an image, by the grammar of card files, and what is shown of it.
use Rattle.std.proofs.Common.{◌≡◌, ◌∙◌, ℕ, ◌+◌, ◌*◌, ◌/◌, ◌≤◌, ◌<◌, ◌^◌, Option, Some, None, List, [], ◌∷◌, length, take, drop, refl, ap, sym, subst, arith, All, length-take, length-drop}
use Rattle.std.proofs.lemmas.List.Elements.{All-from_recursion}
use Rattle.activity_codec.specs.declared.entries.Entry.{Entry}
use Rattle.tach_media.specs.Medium.{bytes_at}
use Rattle.card_layout.specs.declared.files.Application.{Application}
use Rattle.card_layout.specs.declared.files.Range.{Range}
use Rattle.card_layout.specs.Application.{IsApplication, application_in, application_of, first_bad_field}
use Rattle.card_layout.specs.Files.{files_of, range_of, place_of, size_of, image_size_of}
use Rattle.card_layout.proofs.Ranges.{range_inside}
use Rattle.card_layout.proofs.Sizes.{largest_image}
use Rattle.card_download.proofs.Told.{sizes_good}
use Rattle.card_model.specs.Days.{Day}
use Rattle.card_model.specs.Walk.{days_of}
use Rattle.card_model.specs.Checks.{first_bad}
use Rattle.card_retention.specs.Entries.{entries_up_to}
use Rattle.card_files.specs.Vehicles.{vehicle_of}
use Rattle.gated_ring.specs.Ring.{pointer, PointsInside, indices}
use Rattle.gated_ring.proofs.Listing.{indices_below}
use Rattle.gated_ring.proofs.Orders.{Each}
use Rattle.card_image.specs.Fields.{file, file_bytes, day_string, vehicle_ring, last_of, vehicle_at, last_use_of, newest_vehicle, end_mark, card_days}
use Rattle.card_image.specs.View.{card_view}
use Rattle.card_image.specs.Own.{own_sizes, own_view}
use Rattle.card_image.specs.CardFile.{FileEntry, IsFileEntry, IsCardFile, entries_of, card_file, values_of, string_alone, vehicles_alone, last_minute, shown_entries}
use Rattle.file_view.specs.CardFiles.{mark_of, newest, last_entries}
use Rattle.file_view.specs.Showing.{ShowsCardFile, entries_told}
use Rattle.card_download.specs.Written.{file_of, bad_field}
use Rattle.card_download.specs.Readable.{HasAllFiles, IsReadable, image_entries}
use Rattle.card_download.proofs.Moved.{days_alone, bad_alone, pointer_alone, entry_alone, indices_alone}
use Rattle.card_download.proofs.OneList.{one_list}

-- a part has as many bytes as it may have, and no more
part_short : (x : List ℕ) (p n : ℕ) → length (bytes_at x p n) ≤ n
part_short x p n = grind (arith, length-take)

part_whole : (x : List ℕ) (p n : ℕ) → p + n ≤ length x → length (bytes_at x p n) ≡ n
part_whole x p n fits = grind (arith, length-take, length-drop)

-- the only member of a list
only_one : (a b : List ℕ) (o p : List (List ℕ)) → p ≡ o → o ≡ a ∷ [] → p ≡ b ∷ [] → a ≡ b
only_one a b o p same one two = let it : a ∷ [] ≡ b ∷ [] = sym one ∙ sym same ∙ two in cc

-- the last of some indices below a number is below it
last_below : (n : ℕ) (js : List ℕ) → Each (λ j. j < n) js → (i : ℕ) → last_of js ≡ Some i → i < n
last_below n [] all i is = absurd (cc)
last_below n (j ∷ []) all i is = let same : j ≡ i = cc in subst (λ (k : ℕ). k < n) same all.0
last_below n (j ∷ k ∷ js) all i is = last_below n (k ∷ js) all.1 i is

module _ (x : List ℕ) (app : Application) where
  -- each file lies inside the image
  file_inside : (n : ℕ) → place_of app (file n) + size_of app (file n) ≤ image_size_of app
  file_inside n = by (range_of app (file n)) refl
    where
      by : (o : Option Range) → range_of app (file n) ≡ o → place_of app (file n) + size_of app (file n) ≤ image_size_of app
      by None is = rw is (omega arith)
      by (Some r) is = let fits = range_inside app (file n) r is in rw is fits

  abbrev days : List ℕ
  days = file_bytes app 0x0504 x

  abbrev vehicles : List ℕ
  vehicles = file_bytes app 0x0505 x

  -- the days of the string's file, and where it first fails
  days_same : days_of (string_alone app) days ≡ card_days app x
  unfolding card_days files_of
  days_same = days_alone x (place_of app (file 0x0504)) app.activity

  bad_same : first_bad (string_alone app) days ≡ first_bad (day_string app) x
  unfolding files_of
  bad_same = bad_alone x (place_of app (file 0x0504)) app.activity

  ring_long : 2 + app.vehicles * 31 ≤ size_of app (file 0x0505)
  unfolding files_of
  ring_long = omega arith

  pointer_same : pointer (vehicles_alone app) vehicles ≡ pointer (vehicle_ring app) x
  pointer_same = pointer_alone x (vehicle_ring app) (size_of app (file 0x0505)) ring_long

  -- the mark that the vehicle entries tell is the card's end mark
  mark_same : PointsInside (vehicle_ring app) x → mark_of app vehicles ≡ end_mark app x
  unfolding newest_vehicle
  mark_same known =
      ap (λ (js : List ℕ). last_minute app vehicles (last_of js)) (indices_alone x (vehicle_ring app) (size_of app (file 0x0505)) ring_long (omega arith) known)
      ∙ used (last_of (indices (vehicle_ring app) x)) (last_below app.vehicles (indices (vehicle_ring app) x) (indices_below (vehicle_ring app) x known))
    where
      used : (o : Option ℕ) → ((i : ℕ) → o ≡ Some i → i < app.vehicles) → last_minute app vehicles o ≡ last_use_of (vehicle_at app x o) / 60
      used None below = refl
      used (Some i) below = ap (λ (l : List ℕ). (vehicle_of l).last_use.0 / 60) (entry_alone x (vehicle_ring app) (size_of app (file 0x0505)) ring_long i (below i refl))

  module _ (good : IsApplication app) where
    entry_is : (n : ℕ) → n < 2 ^ 16 → IsFileEntry (record { fid = n; kind = 0; value = file_bytes app n x })
    entry_is n low = record {
      fid = low;
      kind = omega arith;
      short = omega (arith, part_short x (place_of app (file n)) (size_of app (file n)), file_inside n, largest_image app good);
    }

    pub each : All IsFileEntry (entries_of app x)
    unfolding files_of
    each = All-from_recursion IsFileEntry (entries_of app x) (
      entry_is 0x0002 (omega arith),
      (
        entry_is 0x0005 (omega arith),
        (
          entry_is 0x0501 (omega arith),
          (
            entry_is 0x0502 (omega arith),
            (
              entry_is 0x0503 (omega arith),
              (
                entry_is 0x0504 (omega arith),
                (
                  entry_is 0x0505 (omega arith),
                  (
                    entry_is 0x0506 (omega arith),
                    (
                      entry_is 0x0507 (omega arith),
                      (
                        entry_is 0x0508 (omega arith),
                        (entry_is 0x0520 (omega arith), (entry_is 0x0521 (omega arith), (entry_is 0x0522 (omega arith), (entry_is 0xC100 (omega arith), (entry_is 0xC108 (omega arith), tt))))),
                      ),
                    ),
                  ),
                ),
              ),
            ),
          ),
        ),
      ),
    )

    one_sizes : values_of 0x0501 (entries_of app x) ≡ application_in x ∷ []
    unfolding files_of
    one_sizes = refl

    one_days : values_of 0x0504 (entries_of app x) ≡ days ∷ []
    unfolding files_of
    one_days = refl

    one_vehicles : values_of 0x0505 (entries_of app x) ≡ vehicles ∷ []
    unfolding files_of
    one_vehicles = refl

    -- the card file is one of the grammar
    pub in_grammar : image_size_of app ≤ length x → first_bad_field (application_in x) ≡ None → app ≡ application_of (application_in x)
        → first_bad (day_string app) x ≡ None → PointsInside (vehicle_ring app) x → IsCardFile app days vehicles (entries_of app x) (card_file app x)
    unfolding files_of card_file
    in_grammar whole bad told string ring = record {
      each = each;
      spelled = refl;
      sizes = application_in x;
      one_application = one_sizes;
      one_string = one_days;
      one_ring = one_vehicles;
      before = take 3 (entries_of app x);
      behind = drop 3 (entries_of app x);
      first = refl;
      sizes_first = (refl, refl, refl);
      sized = (
        part_whole x 33 10 (omega (arith, file_inside 0x0501, whole)),
        part_whole x (place_of app (file 0x0504)) (4 + app.activity) (omega (arith, file_inside 0x0504, whole)),
        part_whole x (place_of app (file 0x0505)) (2 + 31 * app.vehicles) (omega (arith, file_inside 0x0505, whole)),
      );
      application = (bad, told);
      string = bad_same ∙ string;
      ring = subst (λ (n : ℕ). n < app.vehicles) (sym pointer_same) ring;
    }

    -- whatever the grammar reads in it is what stands in the image
    module _ (told : app ≡ application_of (application_in x)) (other : Application) (strings rings : List ℕ) (es : List FileEntry) (read : IsCardFile other strings rings es (card_file app x)) where
      same_entries : es ≡ entries_of app x
      unfolding card_file
      same_entries = one_list es (entries_of app x) read.each each (sym read.spelled)

      same_sizes : read.sizes ≡ application_in x
      same_sizes = only_one read.sizes (application_in x) (values_of 0x0501 es) (values_of 0x0501 (entries_of app x)) (ap (values_of 0x0501) (sym same_entries)) read.one_application one_sizes

      same_days : strings ≡ days
      same_days = only_one strings days (values_of 0x0504 es) (values_of 0x0504 (entries_of app x)) (ap (values_of 0x0504) (sym same_entries)) read.one_string one_days

      same_vehicles : rings ≡ vehicles
      same_vehicles = only_one rings vehicles (values_of 0x0505 es) (values_of 0x0505 (entries_of app x)) (ap (values_of 0x0505) (sym same_entries)) read.one_ring one_vehicles

      same_app : other ≡ app
      same_app = read.application.1 ∙ ap application_of same_sizes ∙ sym told

      pub string_decodes : first_bad (day_string app) x ≡ None
      string_decodes =
          sym bad_same ∙ ap (λ (l : List ℕ). first_bad (string_alone app) l) (sym same_days)
          ∙ ap (λ (a : Application). first_bad (string_alone a) strings) (sym same_app) ∙ read.string

      pub ring_points : PointsInside (vehicle_ring app) x
      ring_points =
          let here : PointsInside (vehicles_alone app) vehicles = subst (λ (l : List ℕ). PointsInside (vehicles_alone app) l) same_vehicles (subst (λ (a : Application). PointsInside (vehicles_alone a) rings) same_app read.ring) in
          subst (λ (n : ℕ). n < app.vehicles) pointer_same here

      pub told_same : (last : Option ℕ) → entries_told last other strings rings ≡ entries_told last app days vehicles
      told_same last =
          ap (λ (a : Application). entries_told last a strings rings) same_app ∙ ap (λ (l : List ℕ). entries_told last app l rings) same_days
          ∙ ap (λ (l : List ℕ). entries_told last app days l) same_vehicles

  -- what is shown of the file
  pub shown_same : PointsInside (vehicle_ring app) x → (last : Option ℕ) → app ≡ own_sizes x → entries_told last app days vehicles ≡ image_entries last x
  unfolding shown_entries last_entries own_view card_view
  shown_same known None is =
      ap (λ (m : ℕ). entries_up_to m (days_of (string_alone app) days)) (mark_same known) ∙ ap (λ (ds : List Day). entries_up_to (end_mark app x) ds) days_same
      ∙ ap (λ (a : Application). entries_up_to (end_mark a x) (card_days a x)) is
  shown_same known (Some n) is = last_same n
    where
      last_same : (n : ℕ) → last_entries n app days vehicles ≡ entries_up_to (own_view x).mark (newest n (card_days (own_sizes x) x))
      last_same n =
          ap (λ (m : ℕ). entries_up_to m (newest n (days_of (string_alone app) days))) (mark_same known) ∙ ap (λ (ds : List Day). entries_up_to (end_mark app x) (newest n ds)) days_same
          ∙ ap (λ (a : Application). entries_up_to (end_mark a x) (newest n (card_days a x))) is

-- the laws, by the sizes that an image tells itself
pub own_good : (x : List ℕ) → bad_field x ≡ None → IsApplication (own_sizes x)
unfolding own_sizes
own_good x none = sizes_good (application_in x) none

own_told : (x : List ℕ) → own_sizes x ≡ application_of (application_in x)
unfolding own_sizes
own_told x = refl

pub file_in_grammar : (x : List ℕ) → HasAllFiles x → IsReadable x
    → IsCardFile (own_sizes x) (file_bytes (own_sizes x) 0x0504 x) (file_bytes (own_sizes x) 0x0505 x) (entries_of (own_sizes x) x) (file_of x)
unfolding file_of
file_in_grammar x whole is = in_grammar x (own_sizes x) (own_good x is.sizes) whole is.sizes (own_told x) is.days is.vehicles

pub readable : (x : List ℕ) (app : Application) (strings rings : List ℕ) (es : List FileEntry) → bad_field x ≡ None → IsCardFile app strings rings es (file_of x) → IsReadable x
unfolding file_of
readable x app strings rings es none read = record {
  sizes = none;
  days = string_decodes x (own_sizes x) (own_good x none) (own_told x) app strings rings es read;
  vehicles = ring_points x (own_sizes x) (own_good x none) (own_told x) app strings rings es read;
}

pub view_shows : (last : Option ℕ) (x : List ℕ) (shown : List Entry) → bad_field x ≡ None → ShowsCardFile last (file_of x) shown → shown ≡ image_entries last x
unfolding file_of
view_shows last x shown none is =
    is.shown_are ∙ told_same x (own_sizes x) (own_good x none) (own_told x) is.app is.days is.vehicles is.entries is.file last
    ∙ shown_same x (own_sizes x) (ring_points x (own_sizes x) (own_good x none) (own_told x) is.app is.days is.vehicles is.entries is.file) last refl
