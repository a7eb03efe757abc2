-- What was found of a card file, as one entry more is read.
use Rattle.std.proofs.Common.{◌≡◌, ◌≢◌, ◌∙◌, ℕ, ◌+◌, ◌*◌, ◌≤◌, ◌&&◌, Bool, true, false, not, cond, Option, Some, None, List, [], ◌∷◌, ◌++◌, length, map, filter, refl, ap, sym, subst, arith, append_assoc, append-nil}
use Rattle.std.specs.Prelude.{is_some, nat_eq, nat_lt, ◌==◌}
use Rattle.std.specs.Bool.{OnTrue}
use Rattle.std.proofs.lemmas.Bool.Decides.{nat_tests}
use Rattle.card_model.specs.Checks.{first_bad}
use Rattle.gated_ring.specs.Ring.{pointer}
use Rattle.std.proofs.lemmas.List.{map-append}
use Rattle.std.proofs.lemmas.List.Elements.{filter-append}
use Rattle.std.proofs.lemmas.Bool.{and_from}
use Rattle.card_layout.specs.Fields.{joined}
use Rattle.tach_media.specs.Medium.{bytes_at}
use Rattle.card_layout.specs.declared.files.Application.{Application}
use Rattle.card_layout.specs.Application.{application_of}
use Rattle.card_image.specs.CardFile.{FileEntry, entry_bytes, is_value, values_of, string_alone, vehicles_alone}
use Rattle.view_text.specs.Exact.{both}
use Rattle.file_view.specs.declared.parts.Found.{Found}
use Rattle.file_view.specs.CardFiles.{are_sizes, are_days, are_vehicles, may_follow, all_follow}
use Rattle.file_view.specs.Reading.{SizesAre, PartIs, days_size, vehicles_size, FoundInFile}

-- the values of a file among the entries and one more
values_both : (fid : ℕ) (es : List FileEntry) (e : FileEntry) → values_of fid (es ++ e ∷ []) ≡ values_of fid es ++ values_of fid (e ∷ [])
values_both fid es e =
    ap (λ (l : List FileEntry). map (λ (f : FileEntry). f.value) l) (filter-append (is_value fid) es (e ∷ []))
    ∙ map-append (λ (f : FileEntry). f.value) (filter (is_value fid) es) (filter (is_value fid) (e ∷ []))

values_with : (fid : ℕ) (es : List FileEntry) (e : FileEntry) → is_value fid e ≡ true → values_of fid (es ++ e ∷ []) ≡ values_of fid es ++ e.value ∷ []
values_with fid es e is = values_both fid es e ∙ ap (λ (b : Bool). values_of fid es ++ map (λ (f : FileEntry). f.value) (cond b (e ∷ []) [])) is

pub values_without : (fid : ℕ) (es : List FileEntry) (e : FileEntry) → is_value fid e ≡ false → values_of fid (es ++ e ∷ []) ≡ values_of fid es
values_without fid es e is = values_both fid es e ∙ ap (λ (b : Bool). values_of fid es ++ map (λ (f : FileEntry). f.value) (cond b (e ∷ []) [])) is ∙ append-nil (values_of fid es)

-- what was found stays with an entry of another file
sizes_stay : (app : Option Application) (es : List FileEntry) (e : FileEntry) → is_value 0x0501 e ≡ false → SizesAre app es → SizesAre app (es ++ e ∷ [])
sizes_stay None es e other are = values_without 0x0501 es e other ∙ are
sizes_stay (Some app) es e other are = record {
  sizes = are.sizes;
  one = values_without 0x0501 es e other ∙ are.one;
  good = are.good;
  told = are.told;
  before = are.before;
  behind = are.behind ++ e ∷ [];
  split = ap (λ (l : List FileEntry). l ++ e ∷ []) are.split ∙ append_assoc are.before are.behind (e ∷ []);
  first = are.first;
}

part_stays : (fid : ℕ) (len : Application → ℕ) (good : Option Application → List ℕ → Bool) (app : Option Application) (o : Option ℕ) (bytes : List ℕ) (es : List FileEntry) (e : FileEntry)
    → is_value fid e ≡ false → PartIs fid len good app o bytes es → PartIs fid len good app o bytes (es ++ e ∷ [])
part_stays fid len good app None bytes es e other is = values_without fid es e other ∙ is
part_stays fid len good None (Some p) bytes es e other is = is
part_stays fid len good (Some app) (Some p) bytes es e other is = (values_without fid es e other ∙ is.0, is.1, is.2)

-- no part is found before the sizes
part_none : (fid : ℕ) (len : Application → ℕ) (good : Option Application → List ℕ → Bool) (o : Option ℕ) (bytes : List ℕ) (es : List FileEntry) → PartIs fid len good None o bytes es → (o ≡ None) × (values_of fid es ≡ [])
part_none fid len good None bytes es is = (refl, is)
part_none fid len good (Some p) bytes es is = absurd is

-- such a part is none without sizes; with them it may come
part_from : (fid : ℕ) (len : Application → ℕ) (good : Option Application → List ℕ → Bool) (app : Application) (o : Option ℕ) (bytes : List ℕ) (es : List FileEntry) → (o ≡ None) × (values_of fid es ≡ []) → PartIs fid len good (Some app) o bytes es
part_from fid len good app None bytes es none = none.1
part_from fid len good app (Some p) bytes es none = absurd (cc)

module _ (bytes : List ℕ) (f : Found) (es : List FileEntry) (e : FileEntry) (s : FoundInFile bytes f es) where
  -- an entry that is passed over
  pub passed_over : is_value 0x0501 e ≡ false → is_value 0x0504 e ≡ false → is_value 0x0505 e ≡ false → (may_follow es e ≡ true) × FoundInFile bytes f (es ++ e ∷ [])
  passed_over no_sizes no_days no_vehicles = (
    rw (no_sizes, no_days, no_vehicles) refl,
    record {
      sizes = sizes_stay f.app es e no_sizes s.sizes;
      days = part_stays 0x0504 days_size are_days f.app f.days bytes es e no_days s.days;
      vehicles = part_stays 0x0505 vehicles_size are_vehicles f.app f.vehicles bytes es e no_vehicles s.vehicles;
    },
  )

  pub sizes_taken : is_value 0x0501 e ≡ true → is_value 0x0504 e ≡ false → is_value 0x0505 e ≡ false → f.app ≡ None → are_sizes e.value ≡ true → FoundInFile bytes (record f { app = Some (application_of e.value) }) (es ++ e ∷ [])
  sizes_taken own no_days no_vehicles none good =
      let days = part_none 0x0504 days_size are_days f.days bytes es (subst (λ (o : Option Application). PartIs 0x0504 days_size are_days o f.days bytes es) none s.days) in
      let vehicles = part_none 0x0505 vehicles_size are_vehicles f.vehicles bytes es (subst (λ (o : Option Application). PartIs 0x0505 vehicles_size are_vehicles o f.vehicles bytes es) none s.vehicles) in
      let empty : values_of 0x0501 es ≡ [] = subst (λ (o : Option Application). SizesAre o es) none s.sizes in
      let one : values_of 0x0501 (es ++ e ∷ []) ≡ e.value ∷ [] = values_with 0x0501 es e own ∙ ap (λ (l : List (List ℕ)). l ++ e.value ∷ []) empty in
      let days_empty : values_of 0x0504 (es ++ e ∷ []) ≡ [] = values_without 0x0504 es e no_days ∙ days.1 in
      let vehicles_empty : values_of 0x0505 (es ++ e ∷ []) ≡ [] = values_without 0x0505 es e no_vehicles ∙ vehicles.1 in
      record {
        sizes = record {
          sizes = e.value;
          one = one;
          good = good;
          told = refl;
          before = es ++ e ∷ [];
          behind = [];
          split = sym (append-nil (es ++ e ∷ []));
          first = (one, days_empty, vehicles_empty);
        };
        days = part_from 0x0504 days_size are_days (application_of e.value) f.days bytes (es ++ e ∷ []) (days.0, days_empty);
        vehicles = part_from 0x0505 vehicles_size are_vehicles (application_of e.value) f.vehicles bytes (es ++ e ∷ []) (vehicles.0, vehicles_empty);
      }

-- a part that comes
pub part_comes : (fid : ℕ) (len : Application → ℕ) (good : Option Application → List ℕ → Bool) (app : Option Application) (o : Option ℕ) (bytes : List ℕ) (es : List FileEntry) (e : FileEntry) (p n : ℕ)
    → is_value fid e ≡ true → PartIs fid len good app o bytes es → o ≡ None
    → ((bare : Bool) → good None e.value ≡ false) → ((a : Application) → good (Some a) e.value ≡ true → n ≡ len a)
    → good app e.value ≡ true → e.value ≡ bytes_at bytes p n → p + n ≤ length bytes → PartIs fid len good app (Some p) bytes (es ++ e ∷ [])
part_comes fid len good None o bytes es e p n own is none bare sized good_value value inside = absurd (let no : false ≡ true = sym (bare true) ∙ good_value in cc)
part_comes fid len good (Some app) o bytes es e p n own is none bare sized good_value value inside =
    let long : n ≡ len app = sized app good_value in
    let same : e.value ≡ bytes_at bytes p (len app) = value ∙ ap (bytes_at bytes p) long in
    let empty : values_of fid es ≡ [] = subst (λ (o : Option ℕ). PartIs fid len good (Some app) o bytes es) none is in (
      values_with fid es e own ∙ ap (λ (l : List (List ℕ)). l ++ e.value ∷ []) empty ∙ ap (λ (v : List ℕ). v ∷ []) same,
      subst (λ (v : List ℕ). good (Some app) v ≡ true) same good_value,
      omega (arith, long, inside),
    )

-- each of some entries, and of one more, may follow
pub all_more : (before es : List FileEntry) (e : FileEntry) → all_follow before es ≡ true → may_follow (before ++ es) e ≡ true → all_follow before (es ++ e ∷ []) ≡ true
all_more before [] e all next = ap (λ (b : Bool). b && true) (ap (λ (l : List FileEntry). may_follow l e) (sym (append-nil before)) ∙ next)
all_more before (x ∷ es) e all next =
    let parts = both (may_follow before x) (all_follow (before ++ x ∷ []) es) all in
    let rest = all_more (before ++ x ∷ []) es e parts.1 (ap (λ (l : List FileEntry). may_follow l e) (append_assoc before (x ∷ []) es) ∙ next) in
    ap (λ (b : Bool). b && all_follow (before ++ x ∷ []) (es ++ e ∷ [])) parts.0 ∙ rest

-- the bytes of entries, and of one more
pub bytes_more : (es : List FileEntry) (e : FileEntry) → joined (map entry_bytes (es ++ e ∷ [])) ≡ joined (map entry_bytes es) ++ entry_bytes e
bytes_more [] e = append-nil (entry_bytes e)
bytes_more (x ∷ es) e = ap (λ (l : List ℕ). entry_bytes x ++ l) (bytes_more es e) ∙ sym (append_assoc (entry_bytes x) (joined (map entry_bytes es)) (entry_bytes e))

-- whether an entry is the value of a file
and_false : (a b : Bool) → b ≡ false → (a && b) ≡ false
and_false true b is = is
and_false false b is = refl

pub value_yes : (e : FileEntry) (fid : ℕ) → e.kind ≡ 0 → e.fid ≡ fid → is_value fid e ≡ true
value_yes e fid kind same = and_from (nat_eq e.kind 0) (nat_eq e.fid fid) (grind (arith, nat_tests)) (grind (arith, nat_tests))

pub value_no : (e : FileEntry) (fid : ℕ) → e.fid ≢ fid → is_value fid e ≡ false
value_no e fid other = and_false (nat_eq e.kind 0) (nat_eq e.fid fid) (grind (arith, nat_tests))

none_of : {X : Type 0} → (o : Option X) → not (is_some o) ≡ true → o ≡ None
none_of None is = refl
none_of (Some x) is = absurd (cc)

-- the sizes are taken, or not
pub sizes_come : (bytes : List ℕ) (f new : Found) (es : List FileEntry) (e : FileEntry) (result : Bool) → FoundInFile bytes f es
    → is_value 0x0501 e ≡ true → is_value 0x0504 e ≡ false → is_value 0x0505 e ≡ false
    → result ≡ (not (is_some f.app) && are_sizes e.value) → OnTrue result (new ≡ record f { app = Some (application_of e.value) }) → OnTrue result (FoundInFile bytes new (es ++ e ∷ []))
sizes_come bytes f new es e true s own no_days no_vehicles judged taken =
    let parts = both (not (is_some f.app)) (are_sizes e.value) (sym judged) in
    subst (λ (g : Found). FoundInFile bytes g (es ++ e ∷ [])) (sym taken) (sizes_taken bytes f es e s own no_days no_vehicles (none_of f.app parts.0) parts.1)
sizes_come bytes f new es e false s own no_days no_vehicles judged taken = tt

equal : (a b : ℕ) → (a == b) ≡ true → a ≡ b
equal a b is = grind (arith, nat_tests)

-- the days are taken, or not, and the vehicle entries
pub days_come : (bytes : List ℕ) (f new : Found) (es : List FileEntry) (e : FileEntry) (place n : ℕ) (result : Bool) → FoundInFile bytes f es
    → is_value 0x0501 e ≡ false → is_value 0x0504 e ≡ true → is_value 0x0505 e ≡ false → e.value ≡ bytes_at bytes place n → length e.value ≡ n → place + n ≤ length bytes
    → result ≡ (not (is_some f.days) && are_days f.app e.value) → OnTrue result (new ≡ record f { days = Some place }) → OnTrue result (FoundInFile bytes new (es ++ e ∷ []))
days_come bytes f new es e place n true s no_sizes own no_vehicles value long inside judged taken =
    let parts = both (not (is_some f.days)) (are_days f.app e.value) (sym judged) in
    subst (λ (g : Found). FoundInFile bytes g (es ++ e ∷ [])) (sym taken) (record {
      sizes = sizes_stay f.app es e no_sizes s.sizes;
      days = part_comes 0x0504 days_size are_days f.app f.days bytes es e place n own s.days (none_of f.days parts.0) (λ _. refl)
          (λ a good. sym long ∙ equal (length e.value) (4 + a.activity) (both (length e.value == 4 + a.activity) (not (is_some (first_bad (string_alone a) e.value))) good).0)
          parts.1 value inside;
      vehicles = part_stays 0x0505 vehicles_size are_vehicles f.app f.vehicles bytes es e no_vehicles s.vehicles;
    })
days_come bytes f new es e place n false s no_sizes own no_vehicles value long inside judged taken = tt

pub vehicles_come : (bytes : List ℕ) (f new : Found) (es : List FileEntry) (e : FileEntry) (place n : ℕ) (result : Bool) → FoundInFile bytes f es
    → is_value 0x0501 e ≡ false → is_value 0x0504 e ≡ false → is_value 0x0505 e ≡ true → e.value ≡ bytes_at bytes place n → length e.value ≡ n → place + n ≤ length bytes
    → result ≡ (not (is_some f.vehicles) && are_vehicles f.app e.value) → OnTrue result (new ≡ record f { vehicles = Some place }) → OnTrue result (FoundInFile bytes new (es ++ e ∷ []))
vehicles_come bytes f new es e place n true s no_sizes no_days own value long inside judged taken =
    let parts = both (not (is_some f.vehicles)) (are_vehicles f.app e.value) (sym judged) in
    subst (λ (g : Found). FoundInFile bytes g (es ++ e ∷ [])) (sym taken) (record {
      sizes = sizes_stay f.app es e no_sizes s.sizes;
      days = part_stays 0x0504 days_size are_days f.app f.days bytes es e no_days s.days;
      vehicles = part_comes 0x0505 vehicles_size are_vehicles f.app f.vehicles bytes es e place n own s.vehicles (none_of f.vehicles parts.0) (λ _. refl)
          (λ a good. sym long ∙ equal (length e.value) (2 + 31 * a.vehicles) (both (length e.value == 2 + 31 * a.vehicles) (nat_lt (pointer (vehicles_alone a) e.value) a.vehicles) good).0)
          parts.1 value inside;
    })
vehicles_come bytes f new es e place n false s no_sizes no_days own value long inside judged taken = tt
