-- A walk meets one day more.
use Rattle.std.proofs.Common.{◌≡◌, ℕ, ◌+◌, Bool, true, false, cond, Option, Some, List, [], ◌∷◌, ◌++◌, refl, sym, ◌∙◌, ap, subst, arith, append_assoc}
use Rattle.std.specs.Prelude.{◌||◌, nat_le}
use Rattle.std.proofs.lemmas.List.{append-nil}
use Rattle.card_image.specs.card_model.Days.{Day, len_of, total}
use Rattle.card_image.specs.card_model.Image.{StringShape, oldest_pointer}
use Rattle.card_image.specs.card_model.Changes.{date_of, until}
use Rattle.card_image.specs.Judging.{PlacedWord, words_placed, days_placed}
use Rattle.card_validity.specs.declared.behind.Behind.{Behind}
use Rattle.card_validity.specs.declared.walk.Met.{Met}
use Rattle.card_validity.specs.declared.walk.Walked.{Walked}
use Rattle.card_validity.specs.Walks.{IsMet, IsLastMet, IsLastOf}
use Rattle.card_validity.specs.Words.{IsBehind, IsPast, HasMet}

-- the words of days, with those of one day more
pub days_placed-append : (size oldest k : ℕ) (older : List Day) (d : Day) (n : ℕ) → n ≡ k + total older → days_placed size oldest k (older ++ d ∷ []) ≡ days_placed size oldest k older ++ words_placed size oldest (n + 12) d.date d.words
days_placed-append size oldest k [] d n is =
    let same : k + 12 ≡ n + 12 = omega (arith, is) in
    append-nil (words_placed size oldest (k + 12) d.date d.words) ∙ ap (λ (m : ℕ). words_placed size oldest m d.date d.words) same
days_placed-append size oldest k (o ∷ os) d n is =
    ap (λ (l : List PlacedWord). words_placed size oldest (k + 12) o.date o.words ++ l) (days_placed-append size oldest (k + len_of o) os d n (omega (arith, is)))
    ∙ sym (append_assoc (words_placed size oldest (k + 12) o.date o.words) (days_placed size oldest (k + len_of o) os) (words_placed size oldest (n + 12) d.date d.words))

-- where no day is later, those behind are looked at
until_whole : (date : ℕ) (ds more : List Day) → until date ds ≡ ds → until date (ds ++ more) ≡ ds ++ until date more
until_whole date [] more is = refl
until_whole date (d ∷ ds) more is = by (nat_le d.date date) (until_whole date ds more) is
  where
    by : (t : Bool) → (until date ds ≡ ds → until date (ds ++ more) ≡ ds ++ until date more) → cond t (d ∷ until date ds) [] ≡ d ∷ ds → cond t (d ∷ until date (ds ++ more)) [] ≡ d ∷ (ds ++ until date more)
    by true rest same = let inner : until date ds ≡ ds = cc in ap (λ (l : List Day). d ∷ l) (rest inner)
    by false rest same = absurd cc

module _ (r : StringShape) (x : List ℕ) (date : ℕ) (older : List Day) (d : Day) (m : Met) (met : IsMet r x older d m) where
  -- whether a later day was met, and the last day that is not
  pub later_still : (cut : Option Met) → IsPast date older true → IsLastOf r x (until date older) cut → IsPast date (older ++ d ∷ []) true × IsLastOf r x (until date (older ++ d ∷ [])) cut
  later_still cut past last = (
    λ more. ap (until date) (append_assoc older (d ∷ []) more) ∙ past (d ∷ more) ∙ sym (past (d ∷ [])),
    subst (λ (l : List Day). IsLastOf r x l cut) (sym (past (d ∷ []))) last,
  )

  pub later_now : (cut : Option Met) → nat_le d.date date ≡ false → IsPast date older false → IsLastOf r x (until date older) cut → IsPast date (older ++ d ∷ []) true × IsLastOf r x (until date (older ++ d ∷ [])) cut
  later_now cut late past last =
      let ends : (more : List Day) → until date (older ++ (d ∷ more)) ≡ older = λ more. until_whole date older (d ∷ more) past ∙ ap (λ (t : Bool). older ++ cond t (d ∷ until date more) []) late ∙ append-nil older in (
        λ more. ap (until date) (append_assoc older (d ∷ []) more) ∙ ends more ∙ sym (ends []),
        subst (λ (l : List Day). IsLastOf r x l cut) (past ∙ sym (ends [])) last,
      )

  pub not_later : nat_le d.date date ≡ true → IsPast date older false → IsPast date (older ++ d ∷ []) false × IsLastMet r x (until date (older ++ d ∷ [])) m
  not_later early past =
      let goes : until date (older ++ d ∷ []) ≡ older ++ d ∷ [] = until_whole date older (d ∷ []) past ∙ ap (λ (t : Bool). older ++ cond t (d ∷ []) []) early in
      (goes, record { older = older; day = d; are = goes; met = met })

  pub newest_met : IsLastMet r x (older ++ d ∷ []) m
  newest_met = record { older = older; day = d; are = refl; met = met }

-- what the flag and the last day become
abbrev pub flag_after : Bool → (late : Bool) → Bool
flag_after past late = past || late

abbrev pub cut_after : (past late : Bool) → Met → Option Met → Option Met
cut_after past late m cut = cond (past || late) cut (Some m)

module _ (r : StringShape) (x : List ℕ) (mark : ℕ) (older : List Day) (d : Day) (m : Met) (met : IsMet r x older d m) where
  by_flags : (past early : Bool) → nat_le d.date (date_of mark) ≡ early → (cut : Option Met) → IsPast (date_of mark) older past → IsLastOf r x (until (date_of mark) older) cut
      → (late : Bool) → cond early false true ≡ late → IsPast (date_of mark) (older ++ d ∷ []) (flag_after past late) × IsLastOf r x (until (date_of mark) (older ++ d ∷ [])) (cut_after past late m cut)
  by_flags true true early cut past last true is = absurd cc
  by_flags true true early cut past last false is = later_still r x (date_of mark) older d m met cut past last
  by_flags true false early cut past last true is = later_still r x (date_of mark) older d m met cut past last
  by_flags true false early cut past last false is = absurd cc
  by_flags false true early cut past last true is = absurd cc
  by_flags false true early cut past last false is = not_later r x (date_of mark) older d m met early past
  by_flags false false early cut past last true is = later_now r x (date_of mark) older d m met cut early past last
  by_flags false false early cut past last false is = absurd cc

  pub met_more : (w : Walked) (behind : Behind) (late : Bool) → cond (nat_le d.date (date_of mark)) false true ≡ late → HasMet r x mark older w
      → IsBehind mark (days_placed r.size (oldest_pointer r x) 0 older ++ words_placed r.size (oldest_pointer r x) (total older + 12) d.date d.words) behind
      → HasMet r x mark (older ++ d ∷ []) (record { behind = behind; past = flag_after w.past late; cut = cut_after w.past late m w.cut; newest = Some m })
  met_more w behind late is has seen =
      let words = days_placed-append r.size (oldest_pointer r x) 0 older d (total older) (omega arith) in
      let both = by_flags w.past (nat_le d.date (date_of mark)) refl w.cut has.past has.cut late is in
      record {
        behind = subst (λ (l : List PlacedWord). IsBehind mark l behind) (sym words) seen;
        past = both.0;
        cut = both.1;
        newest = newest_met r x (date_of mark) older d m met;
      }
