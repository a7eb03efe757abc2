-- A card file does not fail: its entries stand in one way, and each may stand where it does.
use Rattle.std.proofs.Common.{◌≡◌, ◌∙◌, ⊎_elim, ℕ, suc, ◌+◌, ◌*◌, true, false, not, Option, Some, None, List, [], ◌∷◌, ◌++◌, length, map, filter, drop, refl, ap, sym, subst, arith, All, append_assoc, append-nil}
use Rattle.std.specs.Prelude.{is_some, ◌==◌, ◌||◌, nat_lt, slice_index}
use Rattle.std.proofs.lemmas.List.{map-append}
use Rattle.std.proofs.lemmas.List.Elements.{filter-append}
use Rattle.std.proofs.lemmas.Bool.{lt-ltb, and_from}
use Rattle.std.proofs.lemmas.Bool.Decides.{nat_tests}
use Rattle.activity_codec.proofs.ByTest.{by_test}
use Rattle.byteorder.specs.Endian.{big_number}
use Rattle.card_layout.specs.Fields.{joined}
use Rattle.card_layout.proofs.Numbers.{big_number-big_bytes}
use Rattle.tach_media.specs.Medium.{bytes_at}
use Rattle.card_layout.specs.declared.files.Application.{Application}
use Rattle.card_layout.specs.Application.{first_bad_field}
use Rattle.card_model.specs.Checks.{first_bad}
use Rattle.card_image.specs.CardFile.{FileEntry, entry_bytes, IsFileEntry, is_value, values_of, string_alone, vehicles_alone, IsCardFile}
use Rattle.gated_ring.specs.Ring.{pointer}
use Rattle.file_view.specs.CardFiles.{is_empty, are_sizes, sizes_told, are_days, are_vehicles, may_follow, lacks, IsStuck, IsBadCardFile}

-- two fronts of one length
fronts : (a b r s : List ℕ) → length a ≡ length b → a ++ r ≡ b ++ s → (a ≡ b) × (r ≡ s)
fronts [] [] r s len is = (refl, is)
fronts [] (y ∷ b) r s len is = absurd (omega (arith, len))
fronts (x ∷ a) [] r s len is = absurd (omega (arith, len))
fronts (x ∷ a) (y ∷ b) r s len is =
    let tails : a ++ r ≡ b ++ s = cc in
    let first : x ≡ y = cc in
    let rest = fronts a b r s (omega (arith, len)) tails in
    ((λ t. first t ∷ rest.0 t), rest.1)

entry_same : (e f : FileEntry) (r s : List ℕ) → IsFileEntry e → IsFileEntry f → entry_bytes e ++ r ≡ entry_bytes f ++ s → (e ≡ f) × (r ≡ s)
entry_same e f r s ie if_ is =
    let fid : e.fid ≡ f.fid = sym (big_number-big_bytes 2 e.fid ie.fid) ∙ ap (λ (l : List ℕ). big_number 2 (bytes_at l 0 2)) is ∙ big_number-big_bytes 2 f.fid if_.fid in
    let kind : e.kind ≡ f.kind = omega (arith, ap (λ (l : List ℕ). slice_index l 2) is, ie.kind, if_.kind) in
    let len : length e.value ≡ length f.value = sym (big_number-big_bytes 2 (length e.value) ie.short) ∙ ap (λ (l : List ℕ). big_number 2 (bytes_at l 3 2)) is ∙ big_number-big_bytes 2 (length f.value) if_.short in
    let behind : (e.value ++ []) ++ r ≡ (f.value ++ []) ++ s = ap (λ (l : List ℕ). drop 5 l) is in
    let rest = fronts e.value f.value r s len (ap (λ (l : List ℕ). l ++ r) (sym (append-nil e.value)) ∙ behind ∙ ap (λ (l : List ℕ). l ++ s) (append-nil f.value)) in
    ((λ t. record { fid = fid t; kind = kind t; value = rest.0 t }), rest.1)

all_rest : (e : FileEntry) (es : List FileEntry) → All IsFileEntry (e ∷ es) → All IsFileEntry es
all_rest e es all = λ k d low. all (suc k) d (omega (arith, low))

middle : (F : List FileEntry) (x : FileEntry) (xs : List FileEntry) → All IsFileEntry (F ++ x ∷ xs) → IsFileEntry x
middle [] x xs all = all 0 x (omega arith)
middle (f ∷ F) x xs all = middle F x xs (all_rest f (F ++ x ∷ xs) all)

-- what follows some entries that the same bytes begin with
pub record Goes (E F : List FileEntry) (rest : List ℕ) : Type 0 where
  pub more : List FileEntry
  pub split : E ≡ F ++ more
  pub spelled : joined (map entry_bytes more) ≡ rest

goes : (E F : List FileEntry) (rest : List ℕ) → All IsFileEntry E → All IsFileEntry F → joined (map entry_bytes E) ≡ joined (map entry_bytes F) ++ rest → Goes E F rest
goes E [] rest ie if_ is = record { more = E; split = refl; spelled = is }
goes [] (f ∷ fs) rest ie if_ is = absurd (cc)
goes (e ∷ es) (f ∷ fs) rest ie if_ is =
    let same = entry_same e f (joined (map entry_bytes es)) (joined (map entry_bytes fs) ++ rest) (ie 0 e (omega arith)) (if_ 0 f (omega arith)) (is ∙ append_assoc (entry_bytes f) (joined (map entry_bytes fs)) rest) in
    let g = goes es fs rest (all_rest e es ie) (all_rest f fs if_) same.1 in
    record { more = g.more; split = (λ t. same.0 t ∷ g.split t); spelled = g.spelled }

-- the values of a file among two lists of entries
values_both : (fid : ℕ) (es fs : List FileEntry) → values_of fid (es ++ fs) ≡ values_of fid es ++ values_of fid fs
values_both fid es fs =
    ap (λ (l : List FileEntry). map (λ (f : FileEntry). f.value) l) (filter-append (is_value fid) es fs)
    ∙ map-append (λ (f : FileEntry). f.value) (filter (is_value fid) es) (filter (is_value fid) fs)

values_own : (fid : ℕ) (g : FileEntry) (gs : List FileEntry) → is_value fid g ≡ true → values_of fid (g ∷ gs) ≡ g.value ∷ values_of fid gs
values_own fid g gs own = rw own refl

values_other : (fid : ℕ) (g : FileEntry) (gs : List FileEntry) → is_value fid g ≡ false → values_of fid (g ∷ gs) ≡ values_of fid gs
values_other fid g gs other = rw other refl

one_of : (A : List (List ℕ)) (v s : List ℕ) (B : List (List ℕ)) → A ++ v ∷ B ≡ s ∷ [] → (A ≡ []) × (v ≡ s)
one_of [] v s B is = (refl, cc)
one_of (a ∷ []) v s B is = absurd (cc)
one_of (a ∷ b ∷ A) v s B is = absurd (cc)

-- the only value of a file, at an entry
only : (fid : ℕ) (E F : List FileEntry) (g : FileEntry) (gs : List FileEntry) (s : List ℕ) → E ≡ F ++ g ∷ gs → values_of fid E ≡ s ∷ [] → is_value fid g ≡ true → (values_of fid F ≡ []) × (g.value ≡ s)
only fid E F g gs s split one own =
    one_of (values_of fid F) g.value s (values_of fid gs)
    (ap (λ (l : List (List ℕ)). values_of fid F ++ l) (sym (values_own fid g gs own)) ∙ sym (values_both fid F (g ∷ gs)) ∙ ap (values_of fid) (sym split) ∙ one)

-- entries without a value of a file end before such a value
ends_before : (fid : ℕ) (before behind F : List FileEntry) (g : FileEntry) (gs : List FileEntry) → before ++ behind ≡ F ++ g ∷ gs → values_of fid before ≡ [] → is_value fid g ≡ true → (more : List FileEntry) × (F ≡ before ++ more)
ends_before fid [] behind F g gs is none own = (F, refl)
ends_before fid (x ∷ xs) behind [] g gs is none own =
    let first : x ≡ g = cc in
    let there : x.value ∷ values_of fid xs ≡ [] = sym (values_own fid x xs (ap (is_value fid) first ∙ own)) ∙ none in
    absurd (cc)
ends_before fid (x ∷ xs) behind (y ∷ ys) g gs is none own =
    let first : y ≡ x = cc in
    let tails : xs ++ behind ≡ ys ++ g ∷ gs = cc in
    let left : values_of fid xs ≡ [] = by_test (is_value fid x) (λ own_x. let there : x.value ∷ values_of fid xs ≡ [] = sym (values_own fid x xs own_x) ∙ none in absurd (cc)) (λ other. sym (values_other fid x xs other) ∙ none) in
    let rest = ends_before fid xs behind ys g gs tails left own in
    (rest.0, (λ t. first t ∷ rest.1 t))

module _ (app : Application) (days vehicles : List ℕ) (E : List FileEntry) (bytes : List ℕ) (file : IsCardFile app days vehicles E bytes) where
  equal : (a b : ℕ) → a ≡ b → (a == b) ≡ true
  equal a b is = grind (arith, nat_tests)

  no_fault : {X : Type 0} → (o : Option X) → o ≡ None → not (is_some o) ≡ true
  no_fault o is = ap (λ p. not (is_some p)) is

  pub good_sizes : are_sizes file.sizes ≡ true
  good_sizes = and_from (length file.sizes == 10) (not (is_some (first_bad_field file.sizes))) (equal (length file.sizes) 10 file.sized.0) (no_fault (first_bad_field file.sizes) file.application.0)

  pub good_days : are_days (Some app) days ≡ true
  good_days = and_from (length days == 4 + app.activity) (not (is_some (first_bad (string_alone app) days))) (equal (length days) (4 + app.activity) file.sized.1) (no_fault (first_bad (string_alone app) days) file.string)

  pub good_vehicles : are_vehicles (Some app) vehicles ≡ true
  good_vehicles = and_from (length vehicles == 2 + 31 * app.vehicles) (nat_lt (pointer (vehicles_alone app) vehicles) app.vehicles) (equal (length vehicles) (2 + 31 * app.vehicles) file.sized.2) (lt-ltb (pointer (vehicles_alone app) vehicles) app.vehicles file.ring)

  -- the sizes are told before a value of another needed file
  told_before : (fid : ℕ) (F : List FileEntry) (g : FileEntry) (gs : List FileEntry) → E ≡ F ++ g ∷ gs → values_of fid file.before ≡ [] → is_value fid g ≡ true → sizes_told (values_of 0x0501 F) ≡ Some app
  told_before fid F g gs split none own =
      let front = ends_before fid file.before file.behind F g gs (sym file.first ∙ split) none own in
      ap (λ (l : List FileEntry). sizes_told (values_of 0x0501 l)) front.1
      ∙ ap sizes_told (values_both 0x0501 file.before front.0)
      ∙ ap (λ (l : List (List ℕ)). sizes_told (l ++ values_of 0x0501 front.0)) file.sizes_first.0
      ∙ ap (λ (a : Application). Some a) (sym file.application.1)

  -- so each entry may stand where it does
  may_stand : (F : List FileEntry) (g : FileEntry) (gs : List FileEntry) → E ≡ F ++ g ∷ gs → may_follow F g ≡ true
  may_stand F g gs split =
      by_test (is_value 0x0501 g)
      (λ own. let alone = only 0x0501 E F g gs file.sizes split file.one_application own in
      rw own (and_from (is_empty (values_of 0x0501 F)) (are_sizes g.value) (ap is_empty alone.0) (ap are_sizes alone.1 ∙ good_sizes)))
      (λ no_sizes. by_test (is_value 0x0504 g)
      (λ own. let alone = only 0x0504 E F g gs days split file.one_string own in
      rw (no_sizes, own) (and_from (is_empty (values_of 0x0504 F)) (are_days (sizes_told (values_of 0x0501 F)) g.value) (ap is_empty alone.0)
      (ap (λ (o : Option Application). are_days o g.value) (told_before 0x0504 F g gs split file.sizes_first.1 own) ∙ ap (are_days (Some app)) alone.1 ∙ good_days)))
      (λ no_days. by_test (is_value 0x0505 g)
      (λ own. let alone = only 0x0505 E F g gs vehicles split file.one_ring own in
      rw (no_sizes, no_days, own) (and_from (is_empty (values_of 0x0505 F)) (are_vehicles (sizes_told (values_of 0x0501 F)) g.value) (ap is_empty alone.0)
      (ap (λ (o : Option Application). are_vehicles o g.value) (told_before 0x0505 F g gs split file.sizes_first.2 own) ∙ ap (are_vehicles (Some app)) alone.1 ∙ good_vehicles)))
      (λ no_vehicles. rw (no_sizes, no_days, no_vehicles) refl)))

  nothing_lacks : lacks E ≡ false
  nothing_lacks =
      ap (λ (l : List (List ℕ)). is_empty l || (is_empty (values_of 0x0504 E) || is_empty (values_of 0x0505 E))) file.one_application
      ∙ ap (λ (l : List (List ℕ)). is_empty l || is_empty (values_of 0x0505 E)) file.one_string
      ∙ ap is_empty file.one_ring

  -- where some entries end, nothing is stuck
  not_stuck : (F : List FileEntry) (rest : List ℕ) → Goes E F rest → IsStuck F rest → ⊥
  not_stuck F rest g stuck = by g.more g.split g.spelled stuck
    where
      by : (more : List FileEntry) → E ≡ F ++ more → joined (map entry_bytes more) ≡ rest → IsStuck F rest → ⊥
      by [] split spelled stuck = ⊎_elim
          (λ missing. let whole : E ≡ F = split ∙ append-nil F in let no : true ≡ false = sym missing.1 ∙ ap lacks (sym whole) ∙ nothing_lacks in absurd (cc))
          (λ other. ⊎_elim
          (λ none. none.0 (sym spelled))
          (λ unfit. let no : [] ≡ entry_bytes unfit.entry ++ unfit.more = spelled ∙ unfit.spelled in absurd (cc)) other)
          stuck
      by (x ∷ xs) split spelled stuck = ⊎_elim
          (λ missing. let no : entry_bytes x ++ joined (map entry_bytes xs) ≡ [] = spelled ∙ missing.0 in absurd (cc))
          (λ other. ⊎_elim
          (λ none. none.1 x (joined (map entry_bytes xs)) (middle F x xs (subst (All IsFileEntry) split file.each)) (sym spelled))
          (λ unfit.
          let same = entry_same x unfit.entry (joined (map entry_bytes xs)) unfit.more (middle F x xs (subst (All IsFileEntry) split file.each)) unfit.is (spelled ∙ unfit.spelled) in
          let no : true ≡ false = sym (may_stand F x xs split) ∙ ap (may_follow F) same.0 ∙ unfit.unfit in
          absurd (cc)) other)
          stuck

  pub does_not_fail : (place : ℕ) → IsBadCardFile place bytes → ⊥
  does_not_fail place bad = not_stuck bad.entries bad.rest (goes E bad.entries bad.rest file.each bad.each (sym file.spelled ∙ bad.spelled)) bad.stuck
