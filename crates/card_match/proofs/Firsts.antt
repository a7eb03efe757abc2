-- The first of all differences is the answer to a match.
use Rattle.std.proofs.Common.{◌≡◌, ◌∙◌, ◌⊎◌, inl, inr, ⊎_elim, ℕ, ◌+◌, ◌<◌, ◌&&◌, Bool, true, false, not, List, [], ◌∷◌, ◌++◌, map, refl, ap, sym, subst}
use Rattle.std.specs.Prelude.{filter, ◌==◌}
use Rattle.std.specs.List.{AllByRecursion}
use Rattle.activity_codec.proofs.ByTest.{by_test}
use Rattle.activity_codec.specs.declared.entries.Entry.{Entry}
use Rattle.tacho_types.specs.declared.calendar.TheConstants.{DAYS}
use Rattle.view_model.specs.declared.Viewed.{Viewed}
use Rattle.view_model.specs.declared.Line.{Line}
use Rattle.view_model.specs.Lines.{day_of_minute, goes_on, with_minute, lines_of}
use Rattle.view_text.specs.Exact.{both}
use Rattle.view_text.proofs.Texts.{lines-below}
use Rattle.card_match.specs.Exact.{difference_exact}
use Rattle.card_match.specs.Matching.{Against, is_tested, stands, IsMet, IsMatch}
use Rattle.card_match.specs.Differences.{differs, difference_of, differences, same_difference, AreDifferences, first_in, first_of}
use Rattle.card_match.specs.Files.{MatchesFiles, ComparesFiles, MatchesSource, ComparesSource}
use Rattle.card_match.specs.Text.{IsDated, AreDatedRuns}
use Rattle.card_match.specs.declared.difference.Difference.{Difference}
use Rattle.card_match.specs.declared.verdict.Counts.{Counts}
use Rattle.card_match.specs.declared.verdict.Differences.{Differences}
use Rattle.card_match.specs.declared.verdict.Matched.{Matched}
use Rattle.card_match.specs.declared.verdict.Matched.TheVariants.{No}

-- the first entry that differs
record Found (a : Against) (es : List Entry) : Type 0 where
  before : List Entry
  entry : Entry
  behind : List Entry
  rest : List Entry
  here : es ≡ before ++ entry ∷ behind
  met : AllByRecursion (IsMet a) before
  unlike : differs a entry ≡ true
  first : filter (differs a) es ≡ entry ∷ rest

met_by : (tested stood : Bool) → (tested && not stood) ≡ false → tested ≡ true → stood ≡ true
met_by true true is seen = refl
met_by true false is seen = cc
met_by false stood is seen = cc

unlike_by : (tested stood : Bool) → (tested && not stood) ≡ true → (tested ≡ true) × (stood ≡ false)
unlike_by true false is = (refl, refl)
unlike_by true true is = absurd (cc)
unlike_by false stood is = absurd (cc)

-- none differs, or one is the first
first_found : (a : Against) (es : List Entry) → ((filter (differs a) es ≡ []) × AllByRecursion (IsMet a) es) ⊎ Found a es
first_found a [] = inl (refl, tt)
first_found a (e ∷ es) =
    by_test (differs a e)
    (λ unlike. inr (record { before = []; entry = e; behind = es; rest = filter (differs a) es; here = refl; met = tt; unlike = unlike; first = rw unlike refl }))
    (λ like.
    ⊎_elim
    (λ all. inl (rw like all.0, (met_by (is_tested a e) (stands a e) like, all.1)))
    (λ f. inr (record {
      before = e ∷ f.before;
      entry = f.entry;
      behind = f.behind;
      rest = f.rest;
      here = ap (λ (l : List Entry). e ∷ l) f.here;
      met = (met_by (is_tested a e) (stands a e) like, f.met);
      unlike = f.unlike;
      first = rw like f.first;
    }))
    (first_found a es))

-- a minute in front of a run that it goes on with differs as the run does
shows_run : (m : Viewed Difference) (run : Line Difference) → goes_on same_difference m run ≡ true → m.shown ≡ run.shown
shows_run m run joined =
    difference_exact m.shown run.shown (both (m.minute + 1 == run.first && day_of_minute m.minute == day_of_minute run.first) (same_difference m.shown run.shown) joined).1

-- the first line of minutes begins with the first of them
first_line : (m : Viewed Difference) (runs : List (Line Difference)) (c : Counts) → first_in (with_minute same_difference m runs) c ≡ No m.minute m.shown.slot
first_line m [] c = refl
first_line m (run ∷ runs) c =
    let of : Difference → Matched = λ d. No m.minute d.slot in
    by_test (goes_on same_difference m run) (λ joined. rw joined (ap of (sym (shows_run m run joined)))) (λ apart. rw apart refl)

pub first_matches : (a : Against) (es : List Entry) (all : Differences) → AreDifferences a es all → IsMatch a es (first_of all)
first_matches a es all are = ⊎_elim none found (first_found a es)
  where
    by : (l : List Entry) → filter (differs a) es ≡ l → first_of all ≡ first_in (lines_of same_difference (map (difference_of a) l)) all.counts
    by l is = ap (λ (runs : List (Line Difference)). first_in runs all.counts) (are.runs_are ∙ ap (λ (x : List Entry). lines_of same_difference (map (difference_of a) x)) is)

    none : (filter (differs a) es ≡ []) × AllByRecursion (IsMet a) es → IsMatch a es (first_of all)
    none like = subst (IsMatch a es) (sym (by [] like.0)) (record {
      met = like.1;
      tested_are = are.counts_are.tested_are;
      other_are = are.counts_are.other_are;
      before_are = are.counts_are.before_are;
    })

    found : Found a es → IsMatch a es (first_of all)
    found f =
        let unlike = unlike_by (is_tested a f.entry) (stands a f.entry) f.unlike in
        subst (IsMatch a es) (sym (by (f.entry ∷ f.rest) f.first ∙ first_line (difference_of a f.entry) (lines_of same_difference (map (difference_of a) f.rest)) all.counts)) (record {
          before = f.before;
          entry = f.entry;
          behind = f.behind;
          here = f.here;
          met = f.met;
          tested = unlike.0;
          missed = unlike.1;
          minute_is = refl;
          slot_is = refl;
        })

-- so it is of the bytes of two files, and of one source
pub files_match : (unit card : List ℕ) (all : Differences) → ComparesFiles unit card all → MatchesFiles unit card (first_of all)
files_match unit card all c = record {
  messages = c.messages;
  file = c.file;
  registration = c.registration;
  registered = c.registered;
  entries = c.entries;
  vehicles = c.vehicles;
  shows = c.shows;
  answer = first_matches _ c.entries all c.answer;
}

pub source_matches : (bytes : List ℕ) (all : Differences) → ComparesSource bytes all → MatchesSource bytes (first_of all)
source_matches bytes all c = record { unit = c.unit; card = c.card; are = c.are; answers = files_match c.unit c.card all c.answers }

-- ---- on days that a time of four bytes can name

entries_differ : (a : Against) (es : List Entry) → AllByRecursion (λ (e : Entry). day_of_minute e.minute < DAYS) es → AllByRecursion (λ (m : Viewed Difference). day_of_minute m.minute < DAYS) (differences a es)
entries_differ a [] low = tt
entries_differ a (e ∷ es) low = by_test (differs a e) (λ unlike. rw unlike (low.0, entries_differ a es low.1)) (λ like. rw like (entries_differ a es low.1))

pub runs_dated : (a : Against) (es : List Entry) (all : Differences) → AllByRecursion (λ (e : Entry). day_of_minute e.minute < DAYS) es → AreDifferences a es all → AreDatedRuns all.runs.items
runs_dated a es all low are = subst AreDatedRuns (sym are.runs_are) (lines-below DAYS same_difference (differences a es) (entries_differ a es low))

dated_in : (runs : List (Line Difference)) (c : Counts) → AreDatedRuns runs → IsDated (first_in runs c)
dated_in [] c low = tt
dated_in (run ∷ runs) c low = low.0

pub first_dated : (all : Differences) → AreDatedRuns all.runs.items → IsDated (first_of all)
first_dated all low = dated_in all.runs.items all.counts low
