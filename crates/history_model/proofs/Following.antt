-- The book follows the history over a cut: once its limit counts, the minutes of the span before it are those that were found.
use Rattle.std.proofs.Common.{◌≡◌, ◌⊎◌, inl, inr, ⊎_elim, ℕ, ◌<◌, ◌≤◌, Bool, true, false, Option, Some, None, List, [], ◌∷◌, ◌++◌, All, Contains, refl, ap, subst, ◌∙◌, sym, arith, nat_le, nat_lt, find, append_assoc}
use Rattle.std.proofs.lemmas.Bool.Decides.{nat_tests}
use Rattle.std.proofs.lemmas.List.Elements.{filter-append, All-weaker, All-head, All-tail, All-append, Contains-push_cases, Contains-append_cases}
use Rattle.std.proofs.lemmas.List.{append-nil}
use Rattle.std.specs.Prelude.{option_to_list}
use Rattle.history_model.specs.Minutes.{up_to, HistoryMinute}
use Rattle.history_model.specs.History.{limited_to, lost_minute}
use Rattle.history_model.specs.Book.{Book, all, kept, broken, found, Follows, AreLost}
use Rattle.history_model.proofs.Filters.{filter-none, all-back, all-one}
use Rattle.history_model.proofs.Books.{all-none, all-kept, all-found, up_to-whole}

-- minutes up to one stand in front of later ones
parted : (k : ℕ) (closed span sure later : List HistoryMinute) → closed ++ span ≡ sure ++ later → All (λ i. i.minute ≤ k) closed → All (λ i. k < i.minute) later → (mine : List HistoryMinute) × (sure ≡ closed ++ mine) × (span ≡ mine ++ later)
parted k [] span sure later is low high = (sure, refl, is)
parted k (x ∷ closed) span [] [] is low high = absurd (cc)
parted k (x ∷ closed) span [] (y ∷ later) is low high =
    let head : x ≡ y = cc in
    absurd (let under = All-head (λ (i : HistoryMinute). i.minute ≤ k) x closed low in let over = subst (λ (i : HistoryMinute). k < i.minute) (sym head) (All-head (λ (i : HistoryMinute). k < i.minute) y later high) in omega (arith, under, over))
parted k (x ∷ closed) span (y ∷ sure) later is low high =
    let head : x ≡ y = cc in
    let tail : closed ++ span ≡ sure ++ later = cc in
    let p = parted k closed span sure later tail (All-tail (λ (i : HistoryMinute). i.minute ≤ k) x closed low) high in
    (p.0, ap (λ (z : HistoryMinute). z ∷ sure) (sym head) ∙ ap (λ (zs : List HistoryMinute). x ∷ zs) p.1, p.2)

over : (k m : ℕ) → k < m → nat_le m k ≡ false
over k m h = grind (arith, nat_tests)

is-over : (k m : ℕ) → k < m → nat_lt k m ≡ true
is-over k m h = grind (arith, nat_tests)

is-under : (k m : ℕ) → m ≤ k → nat_lt k m ≡ false
is-under k m h = grind (arith, nat_tests)

up_to-none : (k : ℕ) (later : List HistoryMinute) → All (λ i. k < i.minute) later → up_to k later ≡ []
up_to-none k later high = filter-none (λ i. nat_le i.minute k) later (All-weaker (λ (i : HistoryMinute). k < i.minute) (λ i. nat_le i.minute k ≡ false) (λ i h. over k i.minute h) later high)

first-over : (k : ℕ) (mine : List HistoryMinute) (i : HistoryMinute) (later : List HistoryMinute) → All (λ j. j.minute ≤ k) mine → k < i.minute → find (λ j. nat_lt k j.minute) (mine ++ i ∷ later) ≡ Some i
first-over k [] i later low high = rw (is-over k i.minute high) refl
first-over k (x ∷ mine) i later low high = rw (is-under k x.minute (All-head (λ (j : HistoryMinute). j.minute ≤ k) x mine low)) (first-over k mine i later (All-tail (λ (j : HistoryMinute). j.minute ≤ k) x mine low) high)

-- what is sure, the one that may be there, and minutes that were decided and never begun
module _ (k : ℕ) (closed span sure rest : List HistoryMinute) (low : All (λ i. i.minute ≤ k) closed) (known : All (λ i. i.minute ≤ k) sure) where
  -- the minute was kept, or there was none: the span ends with what is sure
  pub limit-kept : closed ++ span ≡ sure ++ rest → All (λ i. k < i.minute) rest → closed ++ limited_to (Some k) span ≡ sure
  limit-kept is high =
      let p = parted k closed span sure rest is low high in
      let mine : All (λ (i : HistoryMinute). i.minute ≤ k) p.0 = all-back (λ (i : HistoryMinute). i.minute ≤ k) closed p.0 (subst (All (λ (i : HistoryMinute). i.minute ≤ k)) p.1 known) in
      ap (λ (zs : List HistoryMinute). closed ++ zs) (ap (limited_to (Some k)) p.2 ∙ filter-append (λ i. nat_le i.minute k) p.0 rest ∙ ap (λ (zs : List HistoryMinute). zs ++ up_to k rest) (up_to-whole k p.0 mine) ∙ ap (λ (zs : List HistoryMinute). p.0 ++ zs) (up_to-none k rest high) ∙ append-nil p.0) ∙ sym p.1

  -- the minute was lost: it is the first beyond the limit, and the sure ones with it are the history with its lost minute
  pub limit-lost : (i : HistoryMinute) → closed ++ span ≡ sure ++ i ∷ rest → k < i.minute → All (λ j. k < j.minute) rest → (lost_minute (Some k) span ≡ Some i) × (closed ++ (limited_to (Some k) span ++ i ∷ []) ≡ sure ++ i ∷ [])
  limit-lost i is first high =
      let late : All (λ (j : HistoryMinute). k < j.minute) (i ∷ rest) = All-append (λ (j : HistoryMinute). k < j.minute) (i ∷ []) rest (all-one (λ (j : HistoryMinute). k < j.minute) i first) high in
      let p = parted k closed span sure (i ∷ rest) is low late in
      let mine : All (λ (j : HistoryMinute). j.minute ≤ k) p.0 = all-back (λ (j : HistoryMinute). j.minute ≤ k) closed p.0 (subst (All (λ (j : HistoryMinute). j.minute ≤ k)) p.1 known) in (
        ap (lost_minute (Some k)) p.2 ∙ first-over k p.0 i rest mine first,
        ap (λ (zs : List HistoryMinute). closed ++ (zs ++ i ∷ [])) (ap (limited_to (Some k)) p.2 ∙ filter-append (λ j. nat_le j.minute k) p.0 (i ∷ rest) ∙ ap (λ (zs : List HistoryMinute). zs ++ up_to k (i ∷ rest)) (up_to-whole k p.0 mine) ∙ ap (λ (zs : List HistoryMinute). p.0 ++ zs) (up_to-none k (i ∷ rest) late) ∙ append-nil p.0)
            ∙ sym (append_assoc closed p.0 (i ∷ [])) ∙ ap (λ (zs : List HistoryMinute). zs ++ i ∷ []) (sym p.1),
      )

longer : (minutes past rest more : List HistoryMinute) → minutes ≡ past ++ rest → minutes ++ more ≡ past ++ (rest ++ more)
longer minutes past rest more is = ap (λ (zs : List HistoryMinute). zs ++ more) is ∙ append_assoc past rest more

-- the next minute of the history is kept, or begun
pub follows-kept : (minutes rest : List HistoryMinute) (lost : List (List HistoryMinute)) (b : Book) (i : HistoryMinute) → b.maybe ≡ None → minutes ≡ all b ++ i ∷ rest → Follows minutes lost b → Follows minutes lost (kept i b)
follows-kept minutes rest lost b i none next f = record {
  front = (rest, next ∙ ap (λ (zs : List HistoryMinute). zs ++ i ∷ rest) (all-none b none) ∙ sym (append_assoc b.sure (i ∷ []) rest) ∙ ap (λ (zs : List HistoryMinute). zs ++ rest) (sym (all-kept i b)));
  each = f.each;
}

pub follows-broken : (minutes rest : List HistoryMinute) (lost : List (List HistoryMinute)) (b : Book) (i : HistoryMinute) → b.maybe ≡ None → minutes ≡ all b ++ i ∷ rest → Follows minutes lost b → Follows minutes lost (broken i b)
follows-broken minutes rest lost b i none next f = record {
  front = (rest, next ∙ ap (λ (zs : List HistoryMinute). zs ++ i ∷ rest) (all-none b none) ∙ sym (append_assoc b.sure (i ∷ []) rest));
  each = f.each;
}

cons : (x : List HistoryMinute) (xs : List (List HistoryMinute)) (y : List HistoryMinute) → Contains (x ∷ xs) y → (x ≡ y) ⊎ Contains xs y
cons x xs y at = ⊎_elim (λ here. ⊎_elim (λ none. absurd (omega (arith, none.1))) (λ is. inl is) (Contains-push_cases [] x y here)) (λ there. inr there) (Contains-append_cases (x ∷ []) xs y at)

module _ (k : ℕ) (b : Book) (known : All (λ i. i.minute ≤ k) b.sure) where
  -- of the minute that may be there: it is, or it is not
  side : ((up_to k (all b) ≡ all b) × All (λ i. i.minute ≤ k) (all b)) ⊎ ((i : HistoryMinute) × (b.maybe ≡ Some i) × (k < i.minute) × (up_to k (all b) ≡ b.sure))
  side = go b.maybe refl
    where
      split : (m : ℕ) (t : Bool) → nat_le m k ≡ t → (m ≤ k) ⊎ (k < m)
      split m true is = inl (grind (arith, nat_tests))
      split m false is = inr (grind (arith, nat_tests))

      go : (o : Option HistoryMinute) → o ≡ b.maybe → ((up_to k (all b) ≡ all b) × All (λ i. i.minute ≤ k) (all b)) ⊎ ((i : HistoryMinute) × (b.maybe ≡ Some i) × (k < i.minute) × (up_to k (all b) ≡ b.sure))
      go None is = let each = subst (All (λ (i : HistoryMinute). i.minute ≤ k)) (sym (all-none b (sym is))) known in inl (up_to-whole k (all b) each, each)
      go (Some i) is = ⊎_elim
          (λ low. let each = subst (λ (o : Option HistoryMinute). All (λ (j : HistoryMinute). j.minute ≤ k) (b.sure ++ option_to_list o)) is (All-append (λ (j : HistoryMinute). j.minute ≤ k) b.sure (i ∷ []) known (all-one (λ (j : HistoryMinute). j.minute ≤ k) i low)) in
          inl (up_to-whole k (all b) each, each))
          (λ high. inr (
            i,
            sym is,
            high,
            ap (λ (o : Option HistoryMinute). up_to k (b.sure ++ option_to_list o)) (sym is) ∙ filter-append (λ j. nat_le j.minute k) b.sure (i ∷ [])
                ∙ ap (λ (zs : List HistoryMinute). zs ++ up_to k (i ∷ [])) (up_to-whole k b.sure known) ∙ ap (λ (zs : List HistoryMinute). b.sure ++ zs) (up_to-none k (i ∷ []) (all-one (λ (j : HistoryMinute). k < j.minute) i high)) ∙ append-nil b.sure,
          ))
          (split i.minute (nat_le i.minute k) refl)

  -- power is back: the limit does not count yet
  pub follows-found : (minutes : List HistoryMinute) (lost : List (List HistoryMinute)) → Follows minutes lost b → Follows minutes lost (found k b)
  follows-found minutes lost f = record {
    front = ⊎_elim
        (λ whole. (f.front.0, f.front.1 ∙ ap (λ (zs : List HistoryMinute). zs ++ f.front.0) (sym (all-found k b ∙ whole.0))))
        (λ gone. (option_to_list b.maybe ++ f.front.0, f.front.1 ∙ append_assoc b.sure (option_to_list b.maybe) f.front.0 ∙ ap (λ (zs : List HistoryMinute). zs ++ (option_to_list b.maybe ++ f.front.0)) (sym (all-found k b ∙ gone.3)))) side;
    each = λ past at. ⊎_elim (λ first. inl (f.front.0, f.front.1 ∙ ap (λ (zs : List HistoryMinute). zs ++ f.front.0) first)) (λ old. f.each past old) (cons (all b) b.lost past at);
  }

  -- one second later it does
  pub follows-limit : (closed span rest more : List HistoryMinute) (later : List (List HistoryMinute)) → closed ++ span ≡ all b ++ rest → All (λ i. i.minute ≤ k) closed → All (λ i. k < i.minute) rest →
      ((i : HistoryMinute) → lost_minute (Some k) span ≡ Some i → Contains later (closed ++ (limited_to (Some k) span ++ i ∷ []))) → AreLost later b →
      (Follows ((closed ++ limited_to (Some k) span) ++ more) later (found k b) × AreLost later (found k b)) × (closed ++ limited_to (Some k) span ≡ all (found k b))
  follows-limit closed span rest more later is low high with_lost olds = ⊎_elim
      (λ whole. let limit = limit-kept k closed span (all b) rest low whole.1 is high in (
        (
          record {
            front = (more, ap (λ (zs : List HistoryMinute). zs ++ more) (limit ∙ sym (all-found k b ∙ whole.0)));
            each = λ past at. ⊎_elim
                (λ first. inl (more, ap (λ (zs : List HistoryMinute). zs ++ more) (limit ∙ first)))
                (λ old. ⊎_elim
                (λ in_. inl ((in_.0 ++ option_to_list b.maybe) ++ more, longer (closed ++ limited_to (Some k) span) past (in_.0 ++ option_to_list b.maybe) more (limit ∙ longer b.sure past in_.0 (option_to_list b.maybe) in_.1)))
                (λ gone. inr gone) (olds past old))
                (cons (all b) b.lost past at);
          },
          λ past at. ⊎_elim
              (λ first. inl ([], whole.0 ∙ first ∙ sym (append-nil past)))
              (λ old. ⊎_elim (λ in_. inl (in_.0 ++ option_to_list b.maybe, whole.0 ∙ longer b.sure past in_.0 (option_to_list b.maybe) in_.1)) (λ gone. inr gone) (olds past old))
              (cons (all b) b.lost past at),
        ),
        limit ∙ sym (all-found k b ∙ whole.0),
      ))
      (λ gone. let goes = is ∙ ap (λ (o : Option HistoryMinute). (b.sure ++ option_to_list o) ++ rest) gone.1 ∙ append_assoc b.sure (gone.0 ∷ []) rest in
      let lost = limit-lost k closed span b.sure rest low known gone.0 goes gone.2 high in
      let limit = limit-kept k closed span b.sure (gone.0 ∷ rest) low known goes (All-append (λ (j : HistoryMinute). k < j.minute) (gone.0 ∷ []) rest (all-one (λ (j : HistoryMinute). k < j.minute) gone.0 gone.2) high) in
      let here : (past : List HistoryMinute) → all b ≡ past → Contains later past = λ past first. subst (λ (zs : List HistoryMinute). Contains later zs) (lost.1 ∙ ap (λ (o : Option HistoryMinute). b.sure ++ option_to_list o) (sym gone.1) ∙ first) (with_lost gone.0 lost.0) in (
        (
          record {
            front = (more, ap (λ (zs : List HistoryMinute). zs ++ more) (limit ∙ sym (all-found k b ∙ gone.3)));
            each = λ past at. ⊎_elim
                (λ first. inr (here past first))
                (λ old. ⊎_elim (λ in_. inl (in_.0 ++ more, longer (closed ++ limited_to (Some k) span) past in_.0 more (limit ∙ in_.1))) (λ lost. inr lost) (olds past old))
                (cons (all b) b.lost past at);
          },
          λ past at. ⊎_elim
              (λ first. inr (here past first))
              (λ old. ⊎_elim (λ in_. inl (in_.0, gone.3 ∙ in_.1)) (λ lost. inr lost) (olds past old))
              (cons (all b) b.lost past at),
        ),
        limit ∙ sym (all-found k b ∙ gone.3),
      )) side
