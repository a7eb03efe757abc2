-- The entries of a download, one more, and where they end.
use Rattle.std.proofs.Common.{◌≡◌, ◌∙◌, inl, inr, ℕ, zero, suc, ◌≤◌, ◌&&◌, Bool, true, false, not, List, [], ◌∷◌, ◌++◌, length, map, drop, refl, ap, sym, subst, arith, All, append_assoc, append-nil, length-append}
use Rattle.std.specs.Prelude.{◌||◌}
use Rattle.std.specs.List.{list_any}
use Rattle.std.proofs.lemmas.List.{length-drop, map-append}
use Rattle.std.proofs.lemmas.List.Elements.{All-append, All-nil}
use Rattle.std.proofs.lemmas.Bool.{and_from}
use Rattle.card_layout.specs.Fields.{joined}
use Rattle.card_image.specs.CardFile.{FileEntry, entry_bytes, is_value}
use Rattle.file_extract.specs.declared.entries.DownloadEntry.{DownloadEntry}
use Rattle.file_extract.specs.declared.entries.Download.{Download}
use Rattle.file_extract.specs.Cards.{IsDownloadEntry, HasNoDownloadEntry, comes_again, none_again, is_single}
use Rattle.file_extract.specs.Reading.{told_at, told, IsEntryAt, StandThere, IsRead, end_of, is_value_at}
use Rattle.file_extract.proofs.Spelling.{few_none}

-- the values of a file among entries that stand somewhere
any_told : (bytes : List ℕ) (fid : ℕ) (all : List DownloadEntry) → list_any (is_value fid) (told bytes all) ≡ list_any (is_value_at fid) all
any_told bytes fid [] = refl
any_told bytes fid (x ∷ all) = ap (λ (b : Bool). is_value_at fid x || b) (any_told bytes fid all)

-- whether an entry comes again, by whether it is a single one
pub again_yes : (bytes : List ℕ) (all : List DownloadEntry) (at : DownloadEntry) → is_single (told_at bytes at) ≡ true → comes_again (told bytes all) (told_at bytes at) ≡ list_any (is_value_at at.fid) all
again_yes bytes all at is = ap (λ (b : Bool). b && list_any (is_value at.fid) (told bytes all)) is ∙ any_told bytes at.fid all

pub again_no : (bytes : List ℕ) (all : List DownloadEntry) (at : DownloadEntry) → is_single (told_at bytes at) ≡ false → comes_again (told bytes all) (told_at bytes at) ≡ false
again_no bytes all at is = ap (λ (b : Bool). b && list_any (is_value at.fid) (told bytes all)) is

-- some entries stand one after the other up to a place
pub record UpTo (bytes : List ℕ) (place : ℕ) (all : List DownloadEntry) : Type 0 where
  pub stand : StandThere bytes all
  pub each : All IsDownloadEntry (told bytes all)
  pub once : none_again [] (told bytes all) ≡ true
  pub spelled : bytes ≡ joined (map entry_bytes (told bytes all)) ++ drop place bytes
  pub place_is : place ≡ length (joined (map entry_bytes (told bytes all)))
  pub inside : place ≤ length bytes

-- the bytes of entries and one more
pub bytes_more : (es : List FileEntry) (e : FileEntry) → joined (map entry_bytes (es ++ e ∷ [])) ≡ joined (map entry_bytes es) ++ entry_bytes e
bytes_more [] e = append-nil (entry_bytes e)
bytes_more (x ∷ es) e = ap (λ (l : List ℕ). entry_bytes x ++ l) (bytes_more es e) ∙ sym (append_assoc (entry_bytes x) (joined (map entry_bytes es)) (entry_bytes e))

-- none of the entries comes again, nor one more
again_more : (before es : List FileEntry) (e : FileEntry) → none_again before es ≡ true → comes_again (before ++ es) e ≡ false → none_again before (es ++ e ∷ []) ≡ true
again_more before [] e none new = and_from (not (comes_again before e)) true (ap (λ (l : List FileEntry). not (comes_again l e)) (sym (append-nil before)) ∙ ap not new) refl
again_more before (x ∷ es) e none new =
    let parts = both (not (comes_again before x)) (none_again (before ++ x ∷ []) es) none in
    and_from (not (comes_again before x)) (none_again (before ++ x ∷ []) (es ++ e ∷ [])) parts.0
    (again_more (before ++ x ∷ []) es e parts.1 (ap (λ (l : List FileEntry). comes_again l e) (append_assoc before (x ∷ []) es) ∙ new))
  where
    both : (a b : Bool) → (a && b) ≡ true → (a ≡ true) × (b ≡ true)
    both true b is = (refl, is)
    both false b is = absurd (cc)

stand_more : (bytes : List ℕ) (all : List DownloadEntry) (at : DownloadEntry) → StandThere bytes all → IsEntryAt bytes at → StandThere bytes (all ++ at ∷ [])
stand_more bytes [] at stand here = (here, tt)
stand_more bytes (x ∷ all) at stand here = (stand.0, stand_more bytes all at stand.1 here)

-- nothing was read
pub none_yet : (bytes : List ℕ) (all : List DownloadEntry) → all ≡ [] → UpTo bytes 0 all
none_yet bytes all none = subst (λ (l : List DownloadEntry). UpTo bytes 0 l) (sym none) (record {
  stand = tt;
  each = All-nil IsDownloadEntry;
  once = refl;
  spelled = refl;
  place_is = refl;
  inside = omega arith;
})

-- one entry more
pub one_more : (bytes : List ℕ) (place : ℕ) (all new : List DownloadEntry) (at : DownloadEntry) → UpTo bytes place all → at.place ≡ place → IsEntryAt bytes at
    → comes_again (told bytes all) (told_at bytes at) ≡ false → new ≡ all ++ at ∷ [] → UpTo bytes (end_of at) new
one_more bytes place all new at front there here other is = subst (λ (l : List DownloadEntry). UpTo bytes (end_of at) l) (sym is) (record {
  stand = stand_more bytes all at front.stand here;
  each = subst (All IsDownloadEntry) (sym more) (All-append IsDownloadEntry (told bytes all) (told_at bytes at ∷ []) front.each one);
  once = ap (none_again []) more ∙ again_more [] (told bytes all) (told_at bytes at) front.once other;
  spelled = whole;
  place_is = omega (arith, ap length whole, length-append (joined (map entry_bytes (told bytes (all ++ at ∷ [])))) (drop (end_of at) bytes), length-drop (end_of at) bytes, here.inside);
  inside = here.inside;
})
  where
    more : told bytes (all ++ at ∷ []) ≡ told bytes all ++ told_at bytes at ∷ []
    more = map-append (told_at bytes) all (at ∷ [])

    one : All IsDownloadEntry (told_at bytes at ∷ [])
    one zero d low = here.is
    one (suc k) d low = absurd (omega (arith, low))

    whole : bytes ≡ joined (map entry_bytes (told bytes (all ++ at ∷ []))) ++ drop (end_of at) bytes
    whole =
        front.spelled ∙ ap (λ (l : List ℕ). joined (map entry_bytes (told bytes all)) ++ l) (ap (λ (p : ℕ). drop p bytes) (sym there) ∙ here.spelled)
        ∙ sym (append_assoc (joined (map entry_bytes (told bytes all))) (entry_bytes (told_at bytes at)) (drop (end_of at) bytes))
        ∙ ap (λ (l : List ℕ). l ++ drop (end_of at) bytes) (sym (bytes_more (told bytes all) (told_at bytes at)))
        ∙ ap (λ (l : List FileEntry). joined (map entry_bytes l) ++ drop (end_of at) bytes) (sym more)

module _ (bytes : List ℕ) (read : Download) (front : UpTo bytes read.end read.entries.items) where
  -- nothing of a download comes next
  pub stops_none : HasNoDownloadEntry (drop read.end bytes) → IsRead bytes read
  stops_none none = record {
    stand = front.stand;
    download = record { each = front.each; once = front.once; spelled = front.spelled; ends = inl none };
    end_is = front.place_is;
    inside = front.inside;
  }

  -- another card's file does
  pub stops_again : (at : DownloadEntry) → at.place ≡ read.end → IsEntryAt bytes at → comes_again (told bytes read.entries.items) (told_at bytes at) ≡ true → IsRead bytes read
  stops_again at there here again = record {
    stand = front.stand;
    download = record {
      each = front.each;
      once = front.once;
      spelled = front.spelled;
      ends = inr (record { entry = told_at bytes at; more = drop (end_of at) bytes; is = here.is; spelled = ap (λ (p : ℕ). drop p bytes) (sym there) ∙ here.spelled; again = again });
    };
    end_is = front.place_is;
    inside = front.inside;
  }

  -- the bytes end
  pub stops_end : length bytes ≤ read.end → IsRead bytes read
  stops_end high = stops_none (few_none (drop read.end bytes) (omega (arith, length-drop read.end bytes, high)))
