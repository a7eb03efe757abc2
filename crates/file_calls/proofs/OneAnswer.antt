-- A match has one answer.
use Rattle.std.proofs.Common.{◌≡◌, ◌∙◌, ℕ, suc, true, false, Some, List, [], ◌∷◌, ◌++◌, map, refl, ap, sym, subst, arith, All, append_assoc}
use Rattle.std.specs.List.{AllByRecursion}
use Rattle.activity_codec.specs.declared.entries.Entry.{Entry}
use Rattle.activity_codec.specs.declared.values.Slot.{Slot}
use Rattle.card_layout.specs.Fields.{joined}
use Rattle.card_files.specs.declared.vehicle.Vehicle.{Vehicle}
use Rattle.message_model.specs.Messages.{Message, message_bytes, IsMessage}
use Rattle.message_model.specs.Showing.{minutes_in}
use Rattle.message_model.proofs.Reading.{one_way}
use Rattle.file_view.specs.Fronts.{registration_in, begins_message}
use Rattle.card_match.specs.Matching.{Against, is_tested, stands, IsMet, IsFirstMiss, IsMatch}
use Rattle.card_match.specs.Differences.{AreDifferences}
use Rattle.card_match.specs.Files.{uses_of, AnswersFiles, AreParts, AnswersSource}
use Rattle.card_match.specs.declared.verdict.Counts.{Counts}
use Rattle.card_match.specs.declared.verdict.Differences.{Differences}
use Rattle.card_match.specs.declared.verdict.Matched.{Matched}
use Rattle.card_match.specs.declared.verdict.Matched.TheVariants.{Yes, No}
use Rattle.card_match.proofs.Answering.{same_answer}
use Rattle.card_match.proofs.Sources.{one_file}
use Rattle.file_calls.proofs.OneCard.{one_shown, one_told}

-- ---- of entries

-- no entry that is met is missed
met_not_missed : (a : Against) (e : Entry) → IsMet a e → is_tested a e ≡ true → stands a e ≡ false → ⊥
met_not_missed a e met tested missed = let stood : stands a e ≡ true = met tested in let no : true ≡ false = sym stood ∙ missed in absurd (cc)

met_at : (a : Against) (before : List Entry) (e : Entry) (behind : List Entry) → AllByRecursion (IsMet a) (before ++ e ∷ behind) → IsMet a e
met_at a [] e behind all = all.0
met_at a (x ∷ before) e behind all = met_at a before e behind all.1

all_met_none_missed : (a : Against) (entries : List Entry) (minute : ℕ) (slot : Slot) → AllByRecursion (IsMet a) entries → IsFirstMiss a entries minute slot → ⊥
all_met_none_missed a entries minute slot all miss = met_not_missed a miss.entry (met_at a miss.before miss.entry miss.behind (subst (AllByRecursion (IsMet a)) miss.here all)) miss.tested miss.missed

-- two first misses are one
one_miss : (a : Against) (b1 b2 : List Entry) (e1 e2 : Entry) (r1 r2 : List Entry) → b1 ++ e1 ∷ r1 ≡ b2 ++ e2 ∷ r2 → AllByRecursion (IsMet a) b1 → AllByRecursion (IsMet a) b2
    → is_tested a e1 ≡ true → stands a e1 ≡ false → is_tested a e2 ≡ true → stands a e2 ≡ false → e1 ≡ e2
one_miss a [] [] e1 e2 r1 r2 is met1 met2 t1 s1 t2 s2 = cc
one_miss a [] (x ∷ b2) e1 e2 r1 r2 is met1 met2 t1 s1 t2 s2 =
    let same : x ≡ e1 = cc in
    absurd (met_not_missed a e1 (subst (IsMet a) same met2.0) t1 s1)
one_miss a (x ∷ b1) [] e1 e2 r1 r2 is met1 met2 t1 s1 t2 s2 =
    let same : x ≡ e2 = cc in
    absurd (met_not_missed a e2 (subst (IsMet a) same met1.0) t2 s2)
one_miss a (x ∷ b1) (y ∷ b2) e1 e2 r1 r2 is met1 met2 t1 s1 t2 s2 =
    let tails : b1 ++ e1 ∷ r1 ≡ b2 ++ e2 ∷ r2 = cc in
    one_miss a b1 b2 e1 e2 r1 r2 tails met1.1 met2.1 t1 s1 t2 s2

same_yes : (t1 o1 b1 t2 o2 b2 : ℕ) → t1 ≡ t2 → o1 ≡ o2 → b1 ≡ b2 → Yes t1 o1 b1 ≡ Yes t2 o2 b2
same_yes t1 o1 b1 t2 o2 b2 t o b = cc

same_no : (m1 m2 : ℕ) (s1 s2 : Slot) → m1 ≡ m2 → s1 ≡ s2 → No m1 s1 ≡ No m2 s2
same_no m1 m2 s1 s2 m s = cc

pub one_match : (a : Against) (entries : List Entry) (one other : Matched) → IsMatch a entries one → IsMatch a entries other → one ≡ other
one_match a entries (Yes t1 o1 b1) (Yes t2 o2 b2) is also =
    same_yes t1 o1 b1 t2 o2 b2 (is.tested_are ∙ sym also.tested_are) (is.other_are ∙ sym also.other_are) (is.before_are ∙ sym also.before_are)
one_match a entries (Yes t1 o1 b1) (No m2 s2) is also = absurd (all_met_none_missed a entries m2 s2 is.met also)
one_match a entries (No m1 s1) (Yes t2 o2 b2) is also = absurd (all_met_none_missed a entries m1 s1 also.met is)
one_match a entries (No m1 s1) (No m2 s2) is also =
    let same = one_miss a is.before also.before is.entry also.entry is.behind also.behind (sym is.here ∙ also.here) is.met also.met is.tested is.missed also.tested also.missed in
    same_no m1 m2 s1 s2 (is.minute_is ∙ ap (λ (e : Entry). e.minute) same ∙ sym also.minute_is) (is.slot_is ∙ ap (λ (e : Entry). e.slot) same ∙ sym also.slot_is)

same_counts : (one other : Counts) → one.tested ≡ other.tested → one.other ≡ other.other → one.before ≡ other.before → one ≡ other
same_counts one other t o b = λ i. record { tested = t i; other = o i; before = b i }

pub one_comparison : (a : Against) (entries : List Entry) (one other : Differences) → AreDifferences a entries one → AreDifferences a entries other → (one.runs.items ≡ other.runs.items) × (one.counts ≡ other.counts)
one_comparison a entries one other is also = (
  is.runs_are ∙ sym also.runs_are,
  same_counts one.counts other.counts (is.counts_are.tested_are ∙ sym also.counts_are.tested_are) (is.counts_are.other_are ∙ sym also.counts_are.other_are) (is.counts_are.before_are ∙ sym also.counts_are.before_are),
)

-- ---- of two files: the other answer is one of the same entries against the same minutes

module _ {T : Type 0} (Answer : Against → List Entry → T → Type 0) (unit card : List ℕ) (m n : T) (one : AnswersFiles Answer unit card m) (other : AnswersFiles Answer unit card n) where
  same_messages : other.messages ≡ one.messages
  same_messages = one_file other.messages one.messages unit other.file one.file

  some_same : (r s : List ℕ) → Some r ≡ Some s → r ≡ s
  some_same r s is = cc

  same_registration : other.registration ≡ one.registration
  same_registration = some_same other.registration one.registration (sym other.registered ∙ ap registration_in same_messages ∙ one.registered)

  same_uses : uses_of other.registration other.vehicles ≡ uses_of one.registration one.vehicles
  same_uses =
      ap (λ (r : List ℕ). uses_of r other.vehicles) same_registration
      ∙ ap (λ (vs : List Vehicle). uses_of one.registration vs) (one_told card other.entries one.entries other.vehicles one.vehicles other.shows one.shows)

  pub also_answers : Answer (record { uses = uses_of one.registration one.vehicles; minutes = minutes_in one.messages }) one.entries n
  also_answers =
      same_answer Answer (uses_of other.registration other.vehicles) (uses_of one.registration one.vehicles) (minutes_in other.messages) (minutes_in one.messages) other.entries one.entries n same_uses (ap minutes_in same_messages)
      (one_shown card other.entries one.entries other.vehicles one.vehicles other.shows one.shows) other.answer

-- ---- of one source: it has these two parts alone

all_rest : (m : Message) (ms : List Message) → All IsMessage (m ∷ ms) → All IsMessage ms
all_rest m ms all = λ k d low. all (suc k) d (omega (arith, low))

one_split : (E F : List Message) (c d : List ℕ) → All IsMessage E → All IsMessage F → joined (map message_bytes E) ++ c ≡ joined (map message_bytes F) ++ d → begins_message c ≡ false → begins_message d ≡ false → (E ≡ F) × (c ≡ d)
one_split [] [] c d are are_too is ends also = (refl, is)
one_split [] (f ∷ fs) c d are are_too is ends also = let begun : begins_message c ≡ true = ap begins_message is in let no : true ≡ false = sym begun ∙ ends in absurd (cc)
one_split (e ∷ es) [] c d are are_too is ends also = let begun : true ≡ begins_message d = ap begins_message is in let no : true ≡ false = begun ∙ also in absurd (cc)
one_split (e ∷ es) (f ∷ fs) c d are are_too is ends also =
    let same = one_way e f (joined (map message_bytes es) ++ c) (joined (map message_bytes fs) ++ d) (are 0 e (omega arith)) (are_too 0 f (omega arith))
    (sym (append_assoc (message_bytes e) (joined (map message_bytes es)) c) ∙ is ∙ append_assoc (message_bytes f) (joined (map message_bytes fs)) d) in
    let rest = one_split es fs c d (all_rest e es are) (all_rest f fs are_too) same.1 ends also in
    (ap (λ (m : Message). m ∷ es) same.0 ∙ ap (λ (l : List Message). f ∷ l) rest.0, rest.1)

module _ (bytes u1 c1 u2 c2 : List ℕ) (one : AreParts bytes u1 c1) (other : AreParts bytes u2 c2) where
  split : (one.messages ≡ other.messages) × (c1 ≡ c2)
  split =
      one_split one.messages other.messages c1 c2 one.file.each other.file.each
      (sym (ap (λ (u : List ℕ). u ++ c1) one.file.spelled) ∙ sym one.parts ∙ other.parts ∙ ap (λ (u : List ℕ). u ++ c2) other.file.spelled) one.ends other.ends

  one_unit : u1 ≡ u2
  one_unit = one.file.spelled ∙ ap (λ (ms : List Message). joined (map message_bytes ms)) split.0 ∙ sym other.file.spelled

  pub same_parts : {T : Type 0} (Answer : Against → List Entry → T → Type 0) (n : T) → AnswersFiles Answer u2 c2 n → AnswersFiles Answer u1 c1 n
  same_parts Answer n is = subst (λ (u : List ℕ). AnswersFiles Answer u c1 n) (sym one_unit) (subst (λ (c : List ℕ). AnswersFiles Answer u2 c n) (sym split.1) is)

pub sources_answer : {T : Type 0} (Answer : Against → List Entry → T → Type 0) (bytes : List ℕ) (m n : T) → (one : AnswersSource Answer bytes m) → AnswersSource Answer bytes n → AnswersFiles Answer one.unit one.card n
sources_answer Answer bytes m n one other = same_parts bytes one.unit one.card other.unit other.card one.are other.are Answer n other.answers
