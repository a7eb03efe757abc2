-- Entries since the start, one after the other.
use Rattle.std.proofs.Common.{◌≡◌, ℕ, ◌<◌, ◌≤◌, Bool, true, false, cond, filter, List, [], ◌∷◌, ◌++◌, append_assoc, refl, sym, ◌∙◌, ap, arith}
use Rattle.std.specs.Prelude.{nat_le}
use Rattle.std.proofs.lemmas.Bool.Decides.{nat_tests}
use Rattle.std.proofs.lemmas.List.{append-nil}
use Rattle.card_by_hand.specs.activity_codec.declared.entries.Entry.{Entry}
use Rattle.card_by_hand.specs.activity_codec.declared.entries.Manual.{Manual}
use Rattle.card_by_hand.specs.card_retention.Expected.{Counted, with_entry}
use Rattle.card_by_hand.specs.card_retention.ByHand.{with_by_hand}
use Rattle.card_by_hand.specs.card_retention.Shown.{Bound, AllUpTo}
use Rattle.card_by_hand.specs.card_image.Own.{own_view, own_covered, counted_view}
use Rattle.card_by_hand.specs.card_session.Inserting.{Follow}
use Rattle.card_by_hand.specs.hand_model.Written.{Written, entries_of, written_by, minutes_alone, counted_by}
use Rattle.card_by_hand.proofs.hand_model.Written.{entries_append, entries_alone, entries_then, counted_append}
use Rattle.card_by_hand.specs.Wider.{with_hands}
use Rattle.card_by_hand.specs.card_session.Overwriting.{and_entry}
use Rattle.card_by_hand.specs.card_session.Repairs.{first_minute, mark_behind, and_entries, with_entries}
use Rattle.card_string.specs.Since.{day_marks, all_since, bound_since, counted_since}

-- ---- what is carried, with some entries more

bound_list : (slack : Bound) (es : List Entry) → and_entries slack es ≡ record { bytes = slack.bytes; all = slack.all ++ es }
bound_list slack [] = ap (λ (l : List Entry). record slack { all = l }) (sym (append-nil slack.all))
bound_list slack (e ∷ es) = bound_list _ es ∙ ap (λ (l : List Entry). record slack { all = l }) (append_assoc slack.all (e ∷ []) es)

pub all_more : (image : List ℕ) (more es : List Entry) → all_since image more ++ es ≡ all_since image (more ++ es)
all_more image more es = append_assoc (own_view image).held.entries more es

pub bound_more : (image : List ℕ) (more es : List Entry) → and_entries (bound_since image more) es ≡ bound_since image (more ++ es)
bound_more image more es =
    bound_list (bound_since image more) es
    ∙ ap (λ (l : List Entry). record (bound_since image more) { all = l })
    (append_assoc (day_marks (own_view image).mark (own_view image).held.days) (all_since image more) es
    ∙ ap (λ (l : List Entry). day_marks (own_view image).mark (own_view image).held.days ++ l) (all_more image more es))

-- ---- what was written, with entries alone behind it

pub alone_is : (ws : List Written) (es : List Entry) → entries_of (ws ++ minutes_alone es) ≡ entries_of ws ++ es
alone_is ws es = entries_append ws (minutes_alone es) ∙ ap (λ (l : List Entry). entries_of ws ++ l) (entries_alone es)

pub all_alone : (image : List ℕ) (ws : List Written) (es : List Entry) → all_since image (entries_of ws) ++ es ≡ all_since image (entries_of (ws ++ minutes_alone es))
all_alone image ws es = all_more image (entries_of ws) es ∙ ap (all_since image) (sym (alone_is ws es))

pub bound_alone : (image : List ℕ) (ws : List Written) (es : List Entry) → and_entries (bound_since image (entries_of ws)) es ≡ bound_since image (entries_of (ws ++ minutes_alone es))
bound_alone image ws es = bound_more image (entries_of ws) es ∙ ap (bound_since image) (sym (alone_is ws es))

counted_es : (covered : ℕ) (c : Counted) (es : List Entry) → with_entries covered c es ≡ counted_by covered c (minutes_alone es)
unfolding counted_by
counted_es covered c [] = refl
counted_es covered c (e ∷ es) = counted_es covered (with_entry covered c e) es

pub counted_alone : (image : List ℕ) (ws : List Written) (es : List Entry) → with_entries (own_covered image) (counted_since image ws) es ≡ counted_since image (ws ++ minutes_alone es)
counted_alone image ws es = counted_es (own_covered image) (counted_since image ws) es ∙ sym (counted_append (own_covered image) (counted_view (own_view image)) ws (minutes_alone es))

-- ---- and with a keep, the first one with its entries by hand

pub all_by : (image : List ℕ) (ws : List Written) (hs : List Manual) (e : Entry) → all_since image (entries_of ws) ++ e ∷ [] ≡ all_since image (entries_of (ws ++ written_by hs e))
all_by image ws hs e = all_more image (entries_of ws) (e ∷ []) ∙ ap (all_since image) (sym (entries_then ws hs e))

pub bound_by : (image : List ℕ) (ws : List Written) (hs : List Manual) (e : Entry) → and_entry (bound_since image (entries_of ws)) e ≡ bound_since image (entries_of (ws ++ written_by hs e))
bound_by image ws hs e = bound_more image (entries_of ws) (e ∷ []) ∙ ap (bound_since image) (sym (entries_then ws hs e))

counted_keep : (covered : ℕ) (c : Counted) (hs : List Manual) (e : Entry) → with_entry covered (with_hands covered c hs) e ≡ counted_by covered c (written_by hs e)
unfolding counted_by
counted_keep covered c [] e = refl
counted_keep covered c (h ∷ hs) e = counted_keep covered (with_by_hand covered c h.minute) hs e

pub counted_then_keep : (image : List ℕ) (ws : List Written) (hs : List Manual) (e : Entry) → with_entry (own_covered image) (with_hands (own_covered image) (counted_since image ws) hs) e ≡ counted_since image (ws ++ written_by hs e)
counted_then_keep image ws hs e = counted_keep (own_covered image) (counted_since image ws) hs e ∙ sym (counted_append (own_covered image) (counted_view (own_view image)) ws (written_by hs e))

-- ---- entries up to a mark, and behind it

pub up_back : (mark : ℕ) (es fs : List Entry) → AllUpTo mark (es ++ fs) → AllUpTo mark fs
up_back mark [] fs up = up
up_back mark (e ∷ es) fs up = up_back mark es fs up.1

pub up_both : (mark : ℕ) (es fs : List Entry) → AllUpTo mark es → AllUpTo mark fs → AllUpTo mark (es ++ fs)
up_both mark [] fs a b = b
up_both mark (e ∷ es) fs a b = (a.0, up_both mark es fs a.1 b)

heads : (e f : Entry) (a c : List Entry) → e ∷ a ≡ f ∷ c → e ≡ f
heads e f a c is = cc

tails : (e f : Entry) (a c : List Entry) → e ∷ a ≡ f ∷ c → a ≡ c
tails e f a c is = cc

same_minute : (e f : Entry) (a c : List Entry) → e ∷ a ≡ f ∷ c → e.minute ≡ f.minute
same_minute e f a c is = ap (λ (x : Entry). x.minute) (heads e f a c is)

-- they part the entries in one way
pub record SameParts (a b c d : List Entry) : Type 0 where
  pub first : a ≡ c
  pub second : b ≡ d

pub same_parts : (mark : ℕ) (a b c d : List Entry) → a ++ b ≡ c ++ d → AllUpTo mark a → AllUpTo mark c → Follow mark b → Follow mark d → SameParts a b c d
same_parts mark [] b [] d is up low fb fd = record { first = refl; second = is }
same_parts mark [] [] (e ∷ c) d is up low fb fd = absurd (cc)
same_parts mark [] (f ∷ b) (e ∷ c) d is up low fb fd = absurd (omega (arith, fb.0, low.0, same_minute f e b (c ++ d) is))
same_parts mark (e ∷ a) b [] [] is up low fb fd = absurd (cc)
same_parts mark (e ∷ a) b [] (f ∷ d) is up low fb fd = absurd (omega (arith, fd.0, up.0, same_minute e f (a ++ b) d is))
same_parts mark (e ∷ a) b (f ∷ c) d is up low fb fd =
    let rest = same_parts mark a b c d (tails e f (a ++ b) (c ++ d) is) up.1 low.1 fb fd in
    record { first = ap (λ (x : Entry). x ∷ a) (heads e f (a ++ b) (c ++ d) is) ∙ ap (λ (l : List Entry). f ∷ l) rest.first; second = rest.second }

-- those up to the mark
pub counted_up : (mark : ℕ) (more rest : List Entry) → AllUpTo mark more → Follow mark rest → filter (λ (e : Entry). nat_le e.minute mark) (more ++ rest) ≡ more
counted_up mark [] rest up follow = none mark (omega arith) rest follow
  where
    above : (m n : ℕ) → n < m → nat_le m n ≡ false
    above m n lt = grind (arith, nat_tests)

    none : (m : ℕ) → mark ≤ m → (rest : List Entry) → Follow m rest → filter (λ (e : Entry). nat_le e.minute mark) rest ≡ []
    none m le [] follow = refl
    none m le (e ∷ es) follow = ap (λ (b : Bool). cond b (e ∷ filter (λ (e : Entry). nat_le e.minute mark) es) (filter (λ (e : Entry). nat_le e.minute mark) es)) (above e.minute mark (omega (arith, le, follow.0))) ∙ none e.minute (omega (arith, le, follow.0)) es follow.1
counted_up mark (e ∷ more) rest up follow =
    ap (λ (b : Bool). cond b (e ∷ filter (λ (e : Entry). nat_le e.minute mark) (more ++ rest)) (filter (λ (e : Entry). nat_le e.minute mark) (more ++ rest))) (within e.minute mark up.0)
    ∙ ap (λ (l : List Entry). e ∷ l) (counted_up mark more rest up.1 follow)
  where
    within : (m n : ℕ) → m ≤ n → nat_le m n ≡ true
    within m n le = grind (arith, nat_tests)

-- behind the last of those that are there the others follow
pub follow_behind : (mark : ℕ) (done rest : List Entry) → Follow mark (done ++ rest) → Follow (mark_behind mark done) rest
follow_behind mark [] rest follow = follow
follow_behind mark (e ∷ done) rest follow = follow_behind e.minute done rest follow.1

pub follow_tail : (m : ℕ) (es fs : List Entry) → Follow m (es ++ fs) → (k : ℕ) × Follow k fs
follow_tail m [] fs follow = (m, follow)
follow_tail m (e ∷ es) fs follow = follow_tail e.minute es fs follow.1

-- further entries follow them
pub follow_on : (m mark next : ℕ) (rest es : List Entry) → Follow m (rest ++ es) → Follow mark rest → mark < first_minute next rest → next ≤ first_minute next es → Follow mark (rest ++ es)
follow_on m mark next [] [] whole follow low after = tt
follow_on m mark next [] (e ∷ es) whole follow low after = (omega (arith, low, after), whole.1)
follow_on m mark next (r ∷ rest) es whole follow low after = (follow.0, whole.1)
