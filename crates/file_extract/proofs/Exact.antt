-- An exact card file is passed on as it is.
use Rattle.std.proofs.Common.{◌≡◌, ◌∙◌, ⊎_elim, ℕ, suc, ◌&&◌, Bool, true, false, not, cond, List, [], ◌∷◌, ◌++◌, length, map, filter, drop, refl, ap, sym, subst, arith, All, append_assoc, append-nil}
use Rattle.std.specs.Prelude.{◌||◌, nat_eq, nat_le, slice_index}
use Rattle.std.specs.List.{list_any}
use Rattle.std.proofs.lemmas.List.{map-append}
use Rattle.std.proofs.lemmas.List.Elements.{filter-append}
use Rattle.std.proofs.lemmas.Bool.{le-leb, and_from, eqb-true}
use Rattle.byteorder.specs.Endian.{big_number}
use Rattle.card_layout.specs.Fields.{joined}
use Rattle.card_layout.specs.Images.{bytes_at}
use Rattle.card_layout.specs.declared.files.Application.{Application}
use Rattle.card_layout.proofs.Numbers.{big_number-big_bytes}
use Rattle.card_image.specs.CardFile.{FileEntry, entry_bytes, is_value, values_of, IsFileEntry, IsCardFile}
use Rattle.file_extract.specs.declared.card.CardPart.{CardPart}
use Rattle.file_extract.specs.Cards.{IsDownloadEntry, IsDownload, is_first, is_single, comes_again, none_again, are_sizes_late, passed_on, is_first_of_sizes, is_first_of_others}
use Rattle.file_view.specs.CardFiles.{IsBadCardFile}
use Rattle.file_view.proofs.OneWay.{does_not_fail}
use Rattle.file_extract.specs.Part.{is_second, IsPassedOn}
use Rattle.file_extract.specs.Judged.{IsNone}

-- a test goes one way or the other
by_test : {P : Type 0} → (b : Bool) → (b ≡ true → P) → (b ≡ false → P) → P
by_test true yes_case no_case = yes_case refl
by_test false yes_case no_case = no_case refl

both : (a b : Bool) → (a && b) ≡ true → (a ≡ true) × (b ≡ true)
both true b is = (refl, is)
both false b is = absurd (cc)

not_true : (b : Bool) → not b ≡ true → b ≡ false
not_true true is = absurd (cc)
not_true false is = refl

-- an entry of a card file is one of a download
pub of_file : (e : FileEntry) → IsFileEntry e → IsDownloadEntry e
of_file e is = record { fid = is.fid; kind = omega (arith, is.kind); short = is.short }

-- two fronts of one length
fronts : (a b r s : List ℕ) → length a ≡ length b → a ++ r ≡ b ++ s → (a ≡ b) × (r ≡ s)
fronts [] [] r s len is = (refl, is)
fronts [] (y ∷ b) r s len is = absurd (omega (arith, len))
fronts (x ∷ a) [] r s len is = absurd (omega (arith, len))
fronts (x ∷ a) (y ∷ b) r s len is =
    let tails : a ++ r ≡ b ++ s = cc in
    let first : x ≡ y = cc in
    let rest = fronts a b r s (omega (arith, len)) tails in
    ((λ t. first t ∷ rest.0 t), rest.1)

-- two entries with which the same bytes begin
pub entry_same : (e f : FileEntry) (r s : List ℕ) → IsDownloadEntry e → IsDownloadEntry f → entry_bytes e ++ r ≡ entry_bytes f ++ s → (e ≡ f) × (r ≡ s)
entry_same e f r s ie if_ is =
    let fid : e.fid ≡ f.fid = sym (big_number-big_bytes 2 e.fid ie.fid) ∙ ap (λ (l : List ℕ). big_number 2 (bytes_at l 0 2)) is ∙ big_number-big_bytes 2 f.fid if_.fid in
    let kind : e.kind ≡ f.kind = omega (arith, ap (λ (l : List ℕ). slice_index l 2) is, ie.kind, if_.kind) in
    let len : length e.value ≡ length f.value = sym (big_number-big_bytes 2 (length e.value) ie.short) ∙ ap (λ (l : List ℕ). big_number 2 (bytes_at l 3 2)) is ∙ big_number-big_bytes 2 (length f.value) if_.short in
    let behind : (e.value ++ []) ++ r ≡ (f.value ++ []) ++ s = ap (λ (l : List ℕ). drop 5 l) is in
    let rest = fronts e.value f.value r s len (ap (λ (l : List ℕ). l ++ r) (sym (append-nil e.value)) ∙ behind ∙ ap (λ (l : List ℕ). l ++ s) (append-nil f.value)) in
    ((λ t. record { fid = fid t; kind = kind t; value = rest.0 t }), rest.1)

pub all_rest : (e : FileEntry) (es : List FileEntry) → All IsDownloadEntry (e ∷ es) → All IsDownloadEntry es
all_rest e es all = λ k d low. all (suc k) d (omega (arith, low))

middle : (F : List FileEntry) (x : FileEntry) (xs : List FileEntry) → All IsDownloadEntry (F ++ x ∷ xs) → IsDownloadEntry x
middle [] x xs all = all 0 x (omega arith)
middle (f ∷ F) x xs all = middle F x xs (all_rest f (F ++ x ∷ xs) all)

-- what follows some entries that the same bytes begin with
pub record Goes (E F : List FileEntry) (rest : List ℕ) : Type 0 where
  pub more : List FileEntry
  pub split : E ≡ F ++ more
  pub spelled : joined (map entry_bytes more) ≡ rest

goes : (E F : List FileEntry) (rest : List ℕ) → All IsDownloadEntry E → All IsDownloadEntry F → joined (map entry_bytes E) ≡ joined (map entry_bytes F) ++ rest → Goes E F rest
goes E [] rest ie if_ is = record { more = E; split = refl; spelled = is }
goes [] (f ∷ fs) rest ie if_ is = absurd (cc)
goes (e ∷ es) (f ∷ fs) rest ie if_ is =
    let same = entry_same e f (joined (map entry_bytes es)) (joined (map entry_bytes fs) ++ rest) (ie 0 e (omega arith)) (if_ 0 f (omega arith)) (is ∙ append_assoc (entry_bytes f) (joined (map entry_bytes fs)) rest) in
    let g = goes es fs rest (all_rest e es ie) (all_rest f fs if_) same.1 in
    record { more = g.more; split = (λ t. same.0 t ∷ g.split t); spelled = g.spelled }

-- where none of some entries comes again, one of them does not
none_there : (before F : List FileEntry) (x : FileEntry) (xs : List FileEntry) → none_again before (F ++ x ∷ xs) ≡ true → comes_again (before ++ F) x ≡ false
none_there before [] x xs none = ap (λ (l : List FileEntry). comes_again l x) (append-nil before) ∙ not_true (comes_again before x) (both (not (comes_again before x)) (none_again (before ++ x ∷ []) xs) none).0
none_there before (f ∷ F) x xs none =
    ap (λ (l : List FileEntry). comes_again l x) (sym (append_assoc before (f ∷ []) F))
    ∙ none_there (before ++ f ∷ []) F x xs (both (not (comes_again before f)) (none_again (before ++ f ∷ []) (F ++ x ∷ xs)) none).1

-- a download of entries none of which comes again is these entries and no more
pub same_entries : (E entries : List FileEntry) (rest bytes : List ℕ) → IsDownload entries rest bytes → All IsDownloadEntry E → none_again [] E ≡ true → bytes ≡ joined (map entry_bytes E) → (E ≡ entries) × (rest ≡ [])
same_entries E entries rest bytes download each none spelled =
    by (goes E entries rest each download.each (sym spelled ∙ download.spelled)).more
    (goes E entries rest each download.each (sym spelled ∙ download.spelled)).split
    (goes E entries rest each download.each (sym spelled ∙ download.spelled)).spelled
  where
    by : (more : List FileEntry) → E ≡ entries ++ more → joined (map entry_bytes more) ≡ rest → (E ≡ entries) × (rest ≡ [])
    by [] split is = (split ∙ append-nil entries, sym is)
    by (x ∷ xs) split is =
        let here : IsDownloadEntry x = middle entries x xs (subst (All IsDownloadEntry) split each) in
        ⊎_elim
        (λ nothing. absurd (nothing x (joined (map entry_bytes xs)) here (sym is)))
        (λ another.
        let same = entry_same x another.entry (joined (map entry_bytes xs)) another.more here another.is (is ∙ another.spelled) in
        let again : comes_again entries x ≡ true = ap (comes_again entries) same.0 ∙ another.again in
        let other : comes_again entries x ≡ false = none_there [] entries x xs (ap (none_again []) (sym split) ∙ none) in
        let clash : true ≡ false = sym again ∙ other in
        absurd (cc))
        download.ends

-- the values of a file among two lists of entries
values_both : (fid : ℕ) (es fs : List FileEntry) → values_of fid (es ++ fs) ≡ values_of fid es ++ values_of fid fs
values_both fid es fs =
    ap (λ (l : List FileEntry). map (λ (f : FileEntry). f.value) l) (filter-append (is_value fid) es fs)
    ∙ map-append (λ (f : FileEntry). f.value) (filter (is_value fid) es) (filter (is_value fid) fs)

-- some value of a file is among entries that have one
some_value : (fid : ℕ) (es : List FileEntry) → list_any (is_value fid) es ≡ true → (v : List ℕ) × (vs : List (List ℕ)) × (values_of fid es ≡ v ∷ vs)
some_value fid [] any = absurd (cc)
some_value fid (e ∷ es) any = by (is_value fid e) refl (some_value fid es)
  where
    by : (b : Bool) → b ≡ is_value fid e → (list_any (is_value fid) es ≡ true → (v : List ℕ) × (vs : List (List ℕ)) × (values_of fid es ≡ v ∷ vs)) → (v : List ℕ) × (vs : List (List ℕ)) × (values_of fid (e ∷ es) ≡ v ∷ vs)
    by true is others = (e.value, values_of fid es, ap (λ (b : Bool). map (λ (f : FileEntry). f.value) (cond b (e ∷ filter (is_value fid) es) (filter (is_value fid) es))) (sym is))
    by false is others =
        let rest = others (ap (λ (b : Bool). b || list_any (is_value fid) es) is ∙ any) in
        (rest.0, rest.1, ap (λ (b : Bool). map (λ (f : FileEntry). f.value) (cond b (e ∷ filter (is_value fid) es) (filter (is_value fid) es))) (sym is) ∙ rest.2)

-- a file that has one value has none before or behind it
one_of : (a : List ℕ) (more : List (List ℕ)) (v s : List ℕ) (B : List (List ℕ)) → (a ∷ more) ++ v ∷ B ≡ s ∷ [] → ⊥
one_of a [] v s B is = absurd (cc)
one_of a (b ∷ more) v s B is = absurd (cc)

values_own : (fid : ℕ) (g : FileEntry) (gs : List FileEntry) → is_value fid g ≡ true → values_of fid (g ∷ gs) ≡ g.value ∷ values_of fid gs
values_own fid g gs own = rw own refl

values_other : (fid : ℕ) (g : FileEntry) (gs : List FileEntry) → is_value fid g ≡ false → values_of fid (g ∷ gs) ≡ values_of fid gs
values_other fid g gs other = rw other refl

-- the one value of a file does not stand behind another
no_second : (fid : ℕ) (before : List FileEntry) (x : FileEntry) (xs : List FileEntry) (s : List ℕ) → values_of fid (before ++ x ∷ xs) ≡ s ∷ [] → is_value fid x ≡ true → list_any (is_value fid) before ≡ true → ⊥
no_second fid before x xs s one own any =
    let there = some_value fid before any in
    one_of there.0 there.1 x.value s (values_of fid xs)
    (ap (λ (l : List (List ℕ)). l ++ x.value ∷ values_of fid xs) (sym there.2)
    ∙ ap (λ (l : List (List ℕ)). values_of fid before ++ l) (sym (values_own fid x xs own)) ∙ sym (values_both fid before (x ∷ xs)) ∙ one)

-- a value has its file's identifier
own_fid : (fid : ℕ) (x : FileEntry) → is_value fid x ≡ true → x.fid ≡ fid
own_fid fid x own = eqb-true x.fid fid (both (nat_eq x.kind 0) (nat_eq x.fid fid) own).1

-- so no entry of such files comes again
not_again : (before : List FileEntry) (x : FileEntry) (xs : List FileEntry) (a d v : List ℕ) → values_of 0x0501 (before ++ x ∷ xs) ≡ a ∷ [] → values_of 0x0504 (before ++ x ∷ xs) ≡ d ∷ [] → values_of 0x0505 (before ++ x ∷ xs) ≡ v ∷ [] → comes_again before x ≡ false
not_again before x xs a d v sizes days vehicles = by_test (comes_again before x) (λ again. absurd (clash (both (is_single x) (list_any (is_value x.fid) before) again).0 (both (is_single x) (list_any (is_value x.fid) before) again).1)) (λ other. other)
  where
    none : (fid : ℕ) (s : List ℕ) → values_of fid (before ++ x ∷ xs) ≡ s ∷ [] → is_value fid x ≡ true → list_any (is_value x.fid) before ≡ true → ⊥
    none fid s one own any = no_second fid before x xs s one own (ap (λ (n : ℕ). list_any (is_value n) before) (sym (own_fid fid x own)) ∙ any)

    clash : is_single x ≡ true → list_any (is_value x.fid) before ≡ true → ⊥
    clash single any = by_test (is_value 0x0501 x) (λ own. none 0x0501 a sizes own any)
        (λ no_sizes. by_test (is_value 0x0504 x) (λ own. none 0x0504 d days own any)
        (λ no_days. by_test (is_value 0x0505 x) (λ own. none 0x0505 v vehicles own any)
        (λ no_vehicles. let wrong : false ≡ true = sym (rw (no_sizes, no_days, no_vehicles) refl) ∙ single in absurd (cc))))

once_in : (before es : List FileEntry) (a d v : List ℕ) → values_of 0x0501 (before ++ es) ≡ a ∷ [] → values_of 0x0504 (before ++ es) ≡ d ∷ [] → values_of 0x0505 (before ++ es) ≡ v ∷ [] → none_again before es ≡ true
once_in before [] a d v sizes days vehicles = refl
once_in before (x ∷ es) a d v sizes days vehicles =
    let next : (before ++ x ∷ []) ++ es ≡ before ++ x ∷ es = append_assoc before (x ∷ []) es in
    and_from (not (comes_again before x)) (none_again (before ++ x ∷ []) es) (ap not (not_again before x es a d v sizes days vehicles))
    (once_in (before ++ x ∷ []) es a d v (ap (values_of 0x0501) next ∙ sizes) (ap (values_of 0x0504) next ∙ days) (ap (values_of 0x0505) next ∙ vehicles))

-- sizes that come first do not come late
in_time : (before behind : List FileEntry) (s : List ℕ) → values_of 0x0501 before ≡ s ∷ [] → values_of 0x0504 before ≡ [] → values_of 0x0505 before ≡ [] → are_sizes_late (before ++ behind) ≡ false
in_time [] behind s sizes days vehicles = absurd (cc)
in_time (x ∷ xs) behind s sizes days vehicles = by_test (is_value 0x0501 x)
    (λ own. rw own refl)
    (λ no_sizes. by_test (is_value 0x0504 x)
    (λ own. let wrong : x.value ∷ values_of 0x0504 xs ≡ [] = sym (values_own 0x0504 x xs own) ∙ days in absurd (cc))
    (λ no_days. by_test (is_value 0x0505 x)
    (λ own. let wrong : x.value ∷ values_of 0x0505 xs ≡ [] = sym (values_own 0x0505 x xs own) ∙ vehicles in absurd (cc))
    (λ no_vehicles. rw (no_sizes, no_days, no_vehicles) (in_time xs behind s (sym (values_other 0x0501 x xs no_sizes) ∙ sizes) (sym (values_other 0x0504 x xs no_days) ∙ days) (sym (values_other 0x0505 x xs no_vehicles) ∙ vehicles)))))

-- entries that are all of the first generation
file_rest : (e : FileEntry) (es : List FileEntry) → All IsFileEntry (e ∷ es) → All IsFileEntry es
file_rest e es all = λ k d low. all (suc k) d (omega (arith, low))

all_first : (es : List FileEntry) → All IsFileEntry es → filter is_first es ≡ es
all_first [] all = refl
all_first (e ∷ es) all =
    let own : nat_le e.kind 1 ≡ true = le-leb e.kind 1 (all 0 e (omega arith)).kind in
    rw own (ap (λ (l : List FileEntry). e ∷ l) (all_first es (file_rest e es all)))

none_second : (es : List FileEntry) → All IsFileEntry es → filter is_second es ≡ []
none_second [] all = refl
none_second (e ∷ es) all =
    let own : nat_le e.kind 1 ≡ true = le-leb e.kind 1 (all 0 e (omega arith)).kind in
    rw own (none_second es (file_rest e es all))

module _ (app : Application) (days vehicles : List ℕ) (E : List FileEntry) (bytes : List ℕ) (file : IsCardFile app days vehicles E bytes) where
  pub are_entries : All IsDownloadEntry E
  are_entries = λ k d low. of_file _ (file.each k d low)

  passed_same : passed_on E ≡ E
  passed_same =
      ap (λ (b : Bool). cond b (filter is_first_of_sizes E ++ filter is_first_of_others E) (filter is_first E)) (ap are_sizes_late file.first ∙ in_time file.before file.behind file.sizes file.sizes_first.0 file.sizes_first.1 file.sizes_first.2)
      ∙ all_first E file.each

  -- a card file is passed on as it is
  pub unchanged : (part : CardPart) → IsPassedOn bytes part → (part.bytes.items ≡ bytes) × (part.second ≡ 0) × (part.end ≡ length bytes)
  unchanged part is =
      let same = same_entries E is.entries is.rest bytes is.download are_entries (once_in [] E file.sizes days vehicles file.one_application file.one_string file.one_ring) file.spelled in (
        is.bytes_are ∙ ap (λ (l : List FileEntry). joined (map entry_bytes (passed_on l))) (sym same.0) ∙ ap (λ (l : List FileEntry). joined (map entry_bytes l)) passed_same ∙ sym file.spelled,
        is.second ∙ ap (λ (l : List FileEntry). length (filter is_second l)) (sym same.0) ∙ ap (λ (l : List FileEntry). length l) (none_second E file.each),
        is.end_is ∙ ap (λ (l : List FileEntry). length (joined (map entry_bytes l))) (sym same.0) ∙ ap (λ (l : List ℕ). length l) (sym file.spelled),
      )

  -- and is not refused
  pub not_refused : (place : ℕ) → IsNone place bytes → ⊥
  not_refused place none =
      let same = same_entries E none.entries none.rest bytes none.download are_entries (once_in [] E file.sizes days vehicles file.one_application file.one_string file.one_ring) file.spelled in
      let out : joined (map entry_bytes (passed_on none.entries)) ≡ bytes = ap (λ (l : List FileEntry). joined (map entry_bytes (passed_on l))) (sym same.0) ∙ ap (λ (l : List FileEntry). joined (map entry_bytes l)) passed_same ∙ sym file.spelled in
      does_not_fail app days vehicles E bytes file none.at (subst (IsBadCardFile none.at) out none.bad)
