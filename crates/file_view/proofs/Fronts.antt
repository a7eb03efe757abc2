-- The front of a card file that was read.
use Rattle.std.proofs.Common.{◌≡◌, ◌∙◌, inl, inr, ℕ, zero, suc, ◌+◌, ◌*◌, ◌≤◌, ◌<◌, ◌&&◌, Bool, true, false, not, Option, Some, None, List, [], ◌∷◌, ◌++◌, length, map, drop, refl, ap, sym, subst, arith, All, append_assoc, append-nil, length-append}
use Rattle.std.specs.Prelude.{is_some, ◌||◌, ◌==◌, nat_lt}
use Rattle.std.proofs.lemmas.List.{length-drop}
use Rattle.std.proofs.lemmas.List.Elements.{All-append, All-nil}
use Rattle.std.proofs.lemmas.Bool.{ltb-true}
use Rattle.std.proofs.lemmas.Bool.Decides.{nat_tests}
use Rattle.card_layout.specs.Fields.{joined}
use Rattle.tach_media.specs.Medium.{bytes_at}
use Rattle.card_layout.specs.declared.files.Application.{Application}
use Rattle.card_layout.specs.Application.{IsApplication, first_bad_field}
use Rattle.card_model.specs.Checks.{first_bad}
use Rattle.card_image.specs.CardFile.{FileEntry, entry_bytes, IsFileEntry, values_of, string_alone, vehicles_alone}
use Rattle.gated_ring.specs.Ring.{pointer}
use Rattle.view_text.specs.Exact.{both}
use Rattle.file_view.specs.declared.entry.EntryAt.{EntryAt}
use Rattle.file_view.specs.declared.parts.Found.{Found}
use Rattle.file_view.specs.CardFiles.{is_empty, are_days, are_vehicles, may_follow, all_follow, lacks, HasNoEntry, IsBadCardFile}
use Rattle.file_view.specs.Reading.{told_at, IsEntryAt, AreSizes, SizesAre, PartIs, days_size, vehicles_size, FoundInFile, AreParts}
use Rattle.file_view.proofs.Finding.{all_more, bytes_more}

-- some entries stand one after the other up to a place, and this was found of them
pub record Front (bytes : List ℕ) (place : ℕ) (f : Found) : Type 0 where
  pub entries : List FileEntry
  pub each : All IsFileEntry entries
  pub follow : all_follow [] entries ≡ true
  pub spelled : bytes ≡ joined (map entry_bytes entries) ++ drop place bytes
  pub place_is : place ≡ length (joined (map entry_bytes entries))
  pub stands : FoundInFile bytes f entries

or_true : (b : Bool) → (b || true) ≡ true
or_true true = refl
or_true false = refl

-- nothing was read
pub front_none : (bytes : List ℕ) (f : Found) → f.app ≡ None → f.days ≡ None → f.vehicles ≡ None → Front bytes 0 f
front_none bytes f app days vehicles = record {
  entries = [];
  each = All-nil IsFileEntry;
  follow = refl;
  spelled = refl;
  place_is = refl;
  stands = record {
    sizes = subst (λ (o : Option Application). SizesAre o []) (sym app) refl;
    days = subst (λ (o : Option ℕ). PartIs 0x0504 days_size are_days f.app o bytes []) (sym days) refl;
    vehicles = subst (λ (o : Option ℕ). PartIs 0x0505 vehicles_size are_vehicles f.app o bytes []) (sym vehicles) refl;
  };
}

module _ (bytes : List ℕ) (place : ℕ) (f : Found) (front : Front bytes place f) where
  -- one entry more
  pub front_more : (at : EntryAt) (g : Found) → IsEntryAt bytes place at → may_follow front.entries (told_at bytes at) ≡ true → FoundInFile bytes g (front.entries ++ told_at bytes at ∷ []) → Front bytes (at.place + at.len) g
  front_more at g here follows stands =
      let e : FileEntry = told_at bytes at in
      let whole : bytes ≡ joined (map entry_bytes (front.entries ++ told_at bytes at ∷ [])) ++ drop (at.place + at.len) bytes =
      front.spelled ∙ ap (λ (l : List ℕ). joined (map entry_bytes front.entries) ++ l) here.spelled
      ∙ sym (append_assoc (joined (map entry_bytes front.entries)) (entry_bytes (told_at bytes at)) (drop (at.place + at.len) bytes))
      ∙ ap (λ (l : List ℕ). l ++ drop (at.place + at.len) bytes) (sym (bytes_more front.entries (told_at bytes at))) in
      record {
        entries = front.entries ++ told_at bytes at ∷ [];
        each = All-append IsFileEntry front.entries (told_at bytes at ∷ []) front.each (all_one (told_at bytes at) here.is);
        follow = all_more [] front.entries (told_at bytes at) front.follow follows;
        spelled = whole;
        place_is = omega (arith, ap length whole, length-append (joined (map entry_bytes (front.entries ++ told_at bytes at ∷ []))) (drop (at.place + at.len) bytes), length-drop (at.place + at.len) bytes, here.inside);
        stands = stands;
      }
    where
      all_one : (e : FileEntry) → IsFileEntry e → All IsFileEntry (e ∷ [])
      all_one e is zero d low = is
      all_one e is (suc k) d low = absurd (omega (arith, low))

  -- an entry that may not follow, and none at all
  pub stops_unfit : (at : EntryAt) → IsEntryAt bytes place at → may_follow front.entries (told_at bytes at) ≡ false → IsBadCardFile place bytes
  stops_unfit at here unfit = record {
    entries = front.entries;
    rest = drop place bytes;
    each = front.each;
    follow = front.follow;
    spelled = front.spelled;
    place_is = front.place_is;
    stuck = inr (inr (record { entry = told_at bytes at; more = drop (at.place + at.len) bytes; is = here.is; spelled = here.spelled; unfit = unfit }));
  }

  pub stops_none : place < length bytes → HasNoEntry (drop place bytes) → IsBadCardFile place bytes
  stops_none low none = record {
    entries = front.entries;
    rest = drop place bytes;
    each = front.each;
    follow = front.follow;
    spelled = front.spelled;
    place_is = front.place_is;
    stuck = inr (inl ((λ empty. absurd (omega (arith, ap length empty, length-drop place bytes, low))), none));
  }

  -- the end, where a file is lacking
  pub stops_lacking : length bytes ≤ place → place ≤ length bytes → (is_some f.app && (is_some f.days && is_some f.vehicles)) ≡ false → IsBadCardFile (length bytes) bytes
  stops_lacking high low missing = record {
    entries = front.entries;
    rest = drop place bytes;
    each = front.each;
    follow = front.follow;
    spelled = front.spelled;
    place_is = let e : length bytes ≡ place = omega (arith, high, low) in e ∙ front.place_is;
    stuck = inl (nothing (drop place bytes) (omega (arith, length-drop place bytes, high)), lacking f.app f.days f.vehicles front.stands.sizes front.stands.days front.stands.vehicles missing);
  }
    where
      nothing : (l : List ℕ) → length l ≡ 0 → l ≡ []
      nothing [] is = refl
      nothing (x ∷ l) is = absurd (omega (arith, is))

      lacking : (app : Option Application) (days vehicles : Option ℕ) → SizesAre app front.entries → PartIs 0x0504 days_size are_days app days bytes front.entries → PartIs 0x0505 vehicles_size are_vehicles app vehicles bytes front.entries
          → (is_some app && (is_some days && is_some vehicles)) ≡ false → lacks front.entries ≡ true
      lacking None days vehicles s d v missing = ap (λ (l : List (List ℕ)). is_empty l || (is_empty (values_of 0x0504 front.entries) || is_empty (values_of 0x0505 front.entries))) s
      lacking (Some app) None vehicles s d v missing = ap (λ (l : List (List ℕ)). is_empty (values_of 0x0501 front.entries) || (is_empty l || is_empty (values_of 0x0505 front.entries))) d ∙ or_true (is_empty (values_of 0x0501 front.entries))
      lacking (Some app) (Some p) None s d v missing =
          ap (λ (l : List (List ℕ)). is_empty (values_of 0x0501 front.entries) || (is_empty (values_of 0x0504 front.entries) || is_empty l)) v
          ∙ ap (λ (b : Bool). is_empty (values_of 0x0501 front.entries) || b) (or_true (is_empty (values_of 0x0504 front.entries)))
          ∙ or_true (is_empty (values_of 0x0501 front.entries))
      lacking (Some app) (Some p) (Some q) s d v missing = absurd (cc)

  -- and where none is
  pub front_whole : length bytes ≤ place → (app : Application) (p q : ℕ) → f.app ≡ Some app → f.days ≡ Some p → f.vehicles ≡ Some q → IsApplication app → AreParts bytes (record { app = app; days = p; vehicles = q })
  front_whole high app p q app_is days_is vehicles_is sound =
      let s : AreSizes app front.entries = subst (λ (o : Option Application). SizesAre o front.entries) app_is front.stands.sizes in
      let d : PartIs 0x0504 days_size are_days (Some app) (Some p) bytes front.entries =
      subst (λ (o : Option ℕ). PartIs 0x0504 days_size are_days (Some app) o bytes front.entries) days_is (subst (λ (o : Option Application). PartIs 0x0504 days_size are_days o f.days bytes front.entries) app_is front.stands.days) in
      let v : PartIs 0x0505 vehicles_size are_vehicles (Some app) (Some q) bytes front.entries =
      subst (λ (o : Option ℕ). PartIs 0x0505 vehicles_size are_vehicles (Some app) o bytes front.entries) vehicles_is (subst (λ (o : Option Application). PartIs 0x0505 vehicles_size are_vehicles o f.vehicles bytes front.entries) app_is front.stands.vehicles) in
      let sizes = both (length s.sizes == 10) (not (is_some (first_bad_field s.sizes))) s.good in
      let days = both (length (bytes_at bytes p (4 + app.activity)) == 4 + app.activity) (not (is_some (first_bad (string_alone app) (bytes_at bytes p (4 + app.activity))))) d.1 in
      let vehicles = both (length (bytes_at bytes q (2 + 31 * app.vehicles)) == 2 + 31 * app.vehicles) (nat_lt (pointer (vehicles_alone app) (bytes_at bytes q (2 + 31 * app.vehicles))) app.vehicles) v.1 in
      record {
        entries = front.entries;
        file = record {
          each = front.each;
          spelled = front.spelled ∙ ap (λ (l : List ℕ). joined (map entry_bytes front.entries) ++ l) (nothing (drop place bytes) (omega (arith, length-drop place bytes, high))) ∙ append-nil (joined (map entry_bytes front.entries));
          sizes = s.sizes;
          one_application = s.one;
          one_string = d.0;
          one_ring = v.0;
          before = s.before;
          behind = s.behind;
          first = s.split;
          sizes_first = s.first;
          sized = (equal (length s.sizes) 10 sizes.0, equal (length (bytes_at bytes p (4 + app.activity))) (4 + app.activity) days.0, equal (length (bytes_at bytes q (2 + 31 * app.vehicles))) (2 + 31 * app.vehicles) vehicles.0);
          application = (none_of (first_bad_field s.sizes) sizes.1, s.told);
          string = none_of (first_bad (string_alone app) (bytes_at bytes p (4 + app.activity))) days.1;
          ring = ltb-true (pointer (vehicles_alone app) (bytes_at bytes q (2 + 31 * app.vehicles))) app.vehicles vehicles.1;
        };
        sound = sound;
        days_inside = d.2;
        vehicles_inside = v.2;
      }
    where
      none_of : {X : Type 0} → (o : Option X) → not (is_some o) ≡ true → o ≡ None
      none_of None is = refl
      none_of (Some x) is = absurd (cc)

      equal : (a b : ℕ) → (a == b) ≡ true → a ≡ b
      equal a b is = grind (arith, nat_tests)

      nothing : (l : List ℕ) → length l ≡ 0 → l ≡ []
      nothing [] is = refl
      nothing (x ∷ l) is = absurd (omega (arith, is))
