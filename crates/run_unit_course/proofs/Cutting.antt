-- The span that goes on ends with a cut in its last second.
use Rattle.std.proofs.Common.{◌≡◌, ◌⊎◌, inl, inr, ⊎_elim, ℕ, suc, ◌+◌, ◌-◌, Bool, true, false, not, ◌||◌, nat_lt, Option, Some, None, List, [], ◌∷◌, ◌++◌, length, map, take, refl, ap, sym, subst, ◌∙◌, arith, append_assoc, append-nil, length-append}
use Rattle.std.specs.Prelude.{option_to_list}
use Rattle.std.specs.List.{AllByRecursion}
use Rattle.std.proofs.lemmas.Bool.Decides.{nat_tests}
use Rattle.trace_model.specs.Trace.{TraceSecond}
use Rattle.minute_model.specs.declared.Rule.{Rule}
use Rattle.minute_model.specs.declared.Minute.{Minute}
use Rattle.minute_model.specs.Activity.{last}
use Rattle.run_model.specs.Span.{picks_of}
use Rattle.log_model.specs.declared.lines.Break.{Break}
use Rattle.log_model.specs.Log.{kept_after, cut_in}
use Rattle.log_model.specs.Course.{ToldSecond, Went, Before, before_next, went_on, went}
use Rattle.log_model.specs.Spans.{spans_of, AreInOrder, AreApart}
use Rattle.log_model.proofs.Growth.{went-more}
use Rattle.log_model.proofs.Spanning.{spanned, order-parts, spans-more}
use Rattle.history_model.specs.Minutes.{HistoryMinute}
use Rattle.history_model.specs.Presence.{Start}
use Rattle.history_model.specs.History.{decided_of, cut_second, any_long, unit_history, with_lost}
use Rattle.history_model.specs.Growth.{closed_history}
use Rattle.history_model.specs.Book.{Book, all, Follows, AreLost}
use Rattle.history_model.proofs.Growing.{apart-last}
use Rattle.history_model.proofs.Deciding.{short-none}
use Rattle.run_unit_course.specs.Turn.{ArePlain, lit_second, cut_last}
use Rattle.run_unit_course.specs.Lines.{log_of, cut_at, IsCutBefore, tells_cut}
use Rattle.run_unit_course.specs.Keeping.{plain, broken_at}
use Rattle.run_unit_course.specs.Followed.{Lit, Progress, going_before, lost_before, HadActions, IsShut, IsOpen, BookFollowsUnitRun}
use Rattle.run_unit_course.proofs.Lines.{cut-none, cut-here, torn-none, found-none, cuts-later, cuts-push, went-cut, tells-here, tells-none, cuts-front, take-front}
use Rattle.run_unit_course.proofs.Turns.{IsQuiet, given_second, lit-told, cut-told, lit-next}
use Rattle.run_unit_course.proofs.Spans.{cut_spans, cut-with, cut-spans-last, decided-cut, length-cut, cut-number}
use Rattle.run_unit_course.proofs.Parts.{plain-append, plain-front, follows-whole, follows-same, whole-history, whole-lost, short-history, short-lost}
use Rattle.run_unit_course.proofs.Ties.{closed-same, shut-off, cut-long, cut-lost, same-minutes, same-losses}
use Rattle.run_unit_course.proofs.Alike.{known-open, decided-empty}
use Rattle.run_unit_course.proofs.Resting.{Resting, added-same}
use Rattle.run_unit_course.proofs.Lighted.{span-end}

-- THE SPAN ENDS WITH A CUT, in its last second
module _ (rule : Rule) (start : Start) (from first : ℕ) (done : List TraceSecond) (p : Progress) (t : ToldSecond) (span : List ToldSecond)
    (f : BookFollowsUnitRun rule start from first done (record p { supply = Lit (t ∷ span) })) (failed : Bool) where
  abbrev cut : Break
  cut = cut_at (p.next - 1) failed p.begun

  abbrev later : List Break
  later = p.breaks ++ cut ∷ []

  abbrev h : HadActions done p.begun
  h = f.last.had

  abbrev front : List TraceSecond
  front = h.before

  order-front : AreInOrder from front × (h.number ≡ from + length front)
  order-front = order-parts from front (given_second h.number h.speed h.actions) (subst (AreInOrder from) h.are f.order)

  number : h.number ≡ p.next - 1
  number =
      let o = order-front.1 in
      let n = f.next in
      let all = ap (λ (zs : List TraceSecond). length zs) h.are in
      let count = length-append front (given_second h.number h.speed h.actions ∷ []) in
      omega (arith, o, n, all, count)

  last-cuts : AllByRecursion (IsCutBefore (p.next - 1)) p.breaks
  last-cuts = f.breaks

  later-cuts : AllByRecursion (IsCutBefore p.next) later
  later-cuts =
      let o = order-front.1 in
      let n = f.next in
      let all = ap (λ (zs : List TraceSecond). length zs) h.are in
      let count = length-append front (given_second h.number h.speed h.actions ∷ []) in
      cuts-push p.next p.breaks (p.next - 1) failed p.begun (omega (arith, n, all, count)) (cuts-later (p.next - 1) p.next p.breaks (omega arith) last-cuts)

  abbrev before : Went
  before = went (log_of p.breaks) front

  front-same : went (log_of later) front ≡ before
  front-same =
      let o = order-front.1 in
      let n = number in
      went-cut from (p.next - 1) front p.breaks (p.next - 1) failed p.begun order-front.0 (omega (arith, o, n)) last-cuts

  abbrev t-as : Bool → ToldSecond
  t-as ends = lit_second h.number h.speed (picks_of h.actions) (not before.before.running) ends

  quiet : (bs : List Break) → AllByRecursion (IsCutBefore p.next) bs → (u : ℕ) → IsQuiet (log_of bs) u
  quiet bs cuts u = record { torn = λ phase slot. torn-none p.next bs u phase slot cuts; found = λ phase slot. found-none bs u phase slot }

  pub told-lit : went (log_of p.breaks) done ≡ record { told = before.told ++ t-as false ∷ []; before = going_before }
  told-lit =
      let is = lit-told (log_of p.breaks) before.before h.number h.speed h.actions f.last.power f.last.slots (quiet p.breaks (cuts-later (p.next - 1) p.next p.breaks (omega arith) last-cuts) h.number)
      (cut-none (p.next - 1) p.breaks h.number last-cuts (let n = number in omega (arith, n))) h.selections in
      ap (went (log_of p.breaks)) h.are ∙ went-more (log_of p.breaks) front (given_second h.number h.speed h.actions)
      ∙ ap (λ (x : ToldSecond). record { told = before.told ++ x ∷ []; before = before_next before.before x }) is
      ∙ ap (λ (b : Before). record { told = before.told ++ t-as false ∷ []; before = b }) (lit-next before.before h.number h.speed (picks_of h.actions) (not before.before.running))

  pub told-cut : went (log_of later) done ≡ record { told = before.told ++ t-as true ∷ []; before = lost_before }
  told-cut =
      let some = ap (cut_in (log_of later)) number ∙ cut-here p.breaks (p.next - 1) failed p.begun last-cuts ∙ ap (λ (k : ℕ). Some k) (sym h.count) in
      let is = cut-told (log_of later) before.before h.number h.speed h.actions f.last.power f.last.slots (quiet later later-cuts h.number) some h.selections in
      ap (went (log_of later)) h.are ∙ went-more (log_of later) front (given_second h.number h.speed h.actions)
      ∙ ap (λ (w : Went). went_on (log_of later) w (given_second h.number h.speed h.actions)) front-same
      ∙ ap (λ (x : ToldSecond). record { told = before.told ++ x ∷ []; before = before_next before.before x }) is

  abbrev told : List ToldSecond
  told = (went (log_of p.breaks) done).told

  abbrev now : List ToldSecond
  now = (went (log_of later) done).told

  pub spans-cut : spans_of now ≡ f.ended ++ cut_last (t ∷ span) ∷ []
  spans-cut =
      ap (λ (w : Went). spans_of w.told) told-cut ∙ spans-more before.told (t-as true)
      ∙ cut-with (spans_of before.told) h.number h.speed (picks_of h.actions) (not before.before.running)
      ∙ ap cut_spans (sym (spans-more before.told (t-as false)) ∙ sym (ap (λ (w : Went). spans_of w.told) told-lit) ∙ f.spans)
      ∙ cut-spans-last f.ended (t ∷ span)

  plain-cut : ArePlain now
  plain-cut =
      subst ArePlain (sym (ap (λ (w : Went). w.told) told-cut))
      (plain-append before.told (t-as true ∷ []) (plain-front before.told (t-as false ∷ []) (subst ArePlain (ap (λ (w : Went). w.told) told-lit) f.plain)) ((refl, refl), tt))

  same : (u : ℕ) → tells_cut u (take p.unfound p.breaks) ≡ true → kept_after (log_of p.breaks) u ≡ kept_after (log_of later) u
  same = added-same p.breaks p.unfound cut f.unfound

  front-found : take p.unfound later ≡ take p.unfound p.breaks
  front-found = take-front p.unfound p.breaks (cut ∷ []) f.unfound

  pub second : cut_second (last (cut_last (t ∷ span))) ≡ Some (p.next - 1)
  second =
      let whole = spanned (log_of p.breaks) from done f.order in
      let apart = apart-last from (from + length done) f.ended (t ∷ span) (subst (λ (ss : List (List ToldSecond)). AreApart from ss (from + length done)) f.spans whole.apart) in
      let end = span-end (log_of p.breaks) from done f.ended t span p.next f.order f.next f.power f.spans in
      cut-number t span apart.1 ∙ ap (λ (k : ℕ). Some (k - 1)) end

  -- whether the span had two seconds
  module _ (maybe : Option HistoryMinute) (rest : List HistoryMinute) (waits : p.waiting ≡ option_to_list maybe ++ rest) where
    abbrev b : Book
    b = broken_at maybe p.book

    sure : (o : Option HistoryMinute) → ((broken_at o p.book).sure ≡ p.book.sure) × (all (broken_at o p.book) ≡ p.book.sure ++ option_to_list o)
    sure None = (refl, ap (λ (m : Option HistoryMinute). p.book.sure ++ option_to_list m) f.tied.none)
    sure (Some i) = (refl, refl)

    abbrev Now : Book → Type 0
    Now b = (IsShut rule start later (take p.unfound later) now (f.ended ++ cut_last (t ∷ span) ∷ []) [] b []
        ⊎ IsOpen rule start later (take p.unfound later) now (f.ended ++ cut_last (t ∷ span) ∷ []) b)
        × Follows (unit_history rule start (log_of later) now) (with_lost rule start (log_of later) now) b

    long-now : nat_lt 1 (length (t ∷ span)) ≡ true → Now b
    long-now long =
        let longer = ap (λ (k : ℕ). nat_lt 1 k) (length-cut (t ∷ span)) ∙ long in
        let open_ = cut-long rule start p.breaks later (take p.unfound later) (subst (λ (bs : List Break). (u : ℕ) → tells_cut u bs ≡ true → kept_after (log_of p.breaks) u ≡ kept_after (log_of later) u) (sym front-found) same) told now f.plain plain-cut f.ended (t ∷ span) (cut_last (t ∷ span)) p.book maybe p.waiting (p.next - 1)
        longer second (tells-here p.breaks (p.next - 1) failed p.begun)
        (ap (tells_cut (p.next - 1)) front-found ∙ tells-none (p.next - 1) (take p.unfound p.breaks) (p.next - 1) (cuts-front (p.next - 1) p.unfound p.breaks last-cuts) (omega arith))
        (subst (λ (bs : List Break). IsShut rule start p.breaks bs told f.ended (t ∷ span) p.book p.waiting) (sym front-found) f.tied) in (
          inr open_,
          follows-whole (unit_history rule start (log_of later) now) rest (with_lost rule start (log_of later) now) b
              (whole-history rule start (log_of later) now f.ended (cut_last (t ∷ span)) spans-cut longer plain-cut
              ∙ ap (λ (ds : List Minute). closed_history rule start (log_of later) now f.ended ++ map plain ds) (decided-cut rule (t ∷ span))
              ∙ ap (λ (is : List HistoryMinute). is ++ map plain (decided_of rule (t ∷ span))) (closed-same rule start p.breaks later (take p.unfound p.breaks) same told now f.plain plain-cut f.ended f.tied.known)
              ∙ f.tied.minutes ∙ ap (λ (is : List HistoryMinute). p.book.sure ++ is) waits ∙ sym (append_assoc p.book.sure (option_to_list maybe) rest)
              ∙ ap (λ (is : List HistoryMinute). is ++ rest) (sym (sure maybe).1))
              (subst (λ (ls : List (List HistoryMinute)). AreLost ls b) (sym (whole-lost rule start (log_of later) now f.ended (cut_last (t ∷ span)) spans-cut longer))
              (cut-lost rule start p.breaks later (take p.unfound p.breaks) same told now f.plain plain-cut f.ended (t ∷ span) p.book maybe p.waiting f.tied)),
        )

    nothing-broken : (o : Option HistoryMinute) → option_to_list o ++ rest ≡ [] → o ≡ None
    nothing-broken None e = refl
    nothing-broken (Some i) e = absurd (cc)

    short-now : span ≡ [] → Now b
    short-now nil =
        let none = ap (λ (s : List ToldSecond). decided_of rule (t ∷ s)) nil ∙ short-none rule t in
        let short : any_long ((t ∷ span) ∷ []) ≡ false = ap (λ (s : List ToldSecond). any_long ((t ∷ s) ∷ [])) nil in
        let cut_none = decided-cut rule (t ∷ span) ∙ none in
        let cut_short : any_long (cut_last (t ∷ span) ∷ []) ≡ false = ap (λ (k : ℕ). nat_lt 1 k || false) (length-cut (t ∷ span)) ∙ short in
        let wait = ⊎_elim (λ (e : p.waiting ≡ []). e) (λ long. absurd (let e : nat_lt 1 (length (t ∷ span)) ≡ false = ap (λ (s : List ToldSecond). nat_lt 1 (length (t ∷ s))) nil in let no : true ≡ false = sym long ∙ e in cc)) f.tied.whole in
        let is = nothing-broken maybe (sym waits ∙ wait) in
        let alike = known-open rule (take p.unfound p.breaks) p.breaks later same f.ended f.tied.known in
        subst (λ (o : Option HistoryMinute). Now (broken_at o p.book)) (sym is) (
          inl (shut-off rule start p.breaks later (take p.unfound p.breaks) same told now f.plain plain-cut (take p.unfound later) f.ended (cut_last (t ∷ span) ∷ []) p.book
              (λ u tells. subst (λ (bs : List Break). tells_cut u bs ≡ true) (sym front-found) tells) (cut_none, tt) (ended-shut none wait f.tied)),
          follows-same (unit_history rule start (log_of p.breaks) told) (unit_history rule start (log_of later) now) (with_lost rule start (log_of p.breaks) told) (with_lost rule start (log_of later) now) p.book
              (short-history rule start (log_of later) now f.ended (cut_last (t ∷ span) ∷ []) spans-cut cut_short (cut_none, tt)
              ∙ same-minutes rule start p.breaks later (take p.unfound p.breaks) same told now f.plain plain-cut f.ended alike
              ∙ sym (short-history rule start (log_of p.breaks) told f.ended ((t ∷ span) ∷ []) f.spans short (none, tt)))
              (short-lost rule start (log_of later) now f.ended (cut_last (t ∷ span) ∷ []) spans-cut cut_short (cut_none, tt)
              ∙ same-losses rule start p.breaks later (take p.unfound p.breaks) same told now f.plain plain-cut f.ended alike
              ∙ sym (short-lost rule start (log_of p.breaks) told f.ended ((t ∷ span) ∷ []) f.spans short (none, tt)))
              f.follows,
        )
      where
        -- a span that decided nothing
        ended-shut : decided_of rule (t ∷ span) ≡ [] → p.waiting ≡ [] → IsShut rule start p.breaks (take p.unfound p.breaks) told f.ended (t ∷ span) p.book p.waiting → IsShut rule start p.breaks (take p.unfound p.breaks) told f.ended [] p.book []
        ended-shut none wait sh = record {
          known = sh.known;
          none = sh.none;
          minutes =
              ap (λ (ds : List Minute). closed_history rule start (log_of p.breaks) told f.ended ++ map plain ds) (decided-empty rule ∙ sym none)
              ∙ sh.minutes ∙ ap (λ (is : List HistoryMinute). p.book.sure ++ is) wait;
          begins = sh.begins;
          whole = inl refl;
          lost = sh.lost;
        }

    which-length : (nat_lt 1 (length (t ∷ span)) ≡ true) ⊎ (span ≡ [])
    which-length = go span
      where
        go : (s : List ToldSecond) → (nat_lt 1 (length (t ∷ s)) ≡ true) ⊎ (s ≡ [])
        go [] = inr refl
        go (y ∷ s) = inl (two (length s))
          where
            two : (k : ℕ) → nat_lt 1 (suc (suc k)) ≡ true
            two k = grind (arith, nat_tests)

    pub ends : Resting rule start from first done later p.unfound p.next b × (went (log_of later) done).before ≡ lost_before
    ends =
        let now_ = ⊎_elim long-now short-now which-length in (
          record {
            early = f.early;
            order = f.order;
            number = f.next;
            cuts = later-cuts;
            within = let le = f.unfound in let n = length-append p.breaks (cut ∷ []) in omega (arith, le, n);
            plain = plain-cut;
            ended = f.ended ++ cut_last (t ∷ span) ∷ [];
            spans = spans-cut ∙ sym (append-nil (f.ended ++ cut_last (t ∷ span) ∷ []));
            tied = now_.0;
            follows = now_.1;
          },
          ap (λ (w : Went). w.before) told-cut,
        )
