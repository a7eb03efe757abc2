-- What calls on a chip leave of its card.
use Rattle.std.proofs.Common.{◌≡◌, ◌∙◌, ℕ, ◌+◌, ◌<◌, ◌≤◌, Bool, true, false, List, length, drop, Option, Some, None, is_some, refl, sym, ⊎_elim, arith}
use Rattle.std.specs.Prelude.{Result, Ok, Err, OnOk, OnErr, is_err, ⊤, ◌==◌, ◌&&◌, ◌||◌, not, nat_lt, slice_index, bytes_eq, if◌then◌else◌}
use Rattle.std.proofs.lemmas.Bool.{cond_both, and_parts}
use Rattle.std.proofs.lemmas.List.{length-drop}
use Rattle.std.proofs.lemmas.Bool.Decides.{nat_tests}
use Rattle.card_layout.specs.declared.command.CardState.{CardState}
use Rattle.card_layout.specs.declared.command.ElementaryFile.{ElementaryFile}
use Rattle.card_layout.specs.declared.command.Command.{Command}
use Rattle.card_layout.specs.declared.command.Command.TheVariants.{Application, Select, Read, Update}
use Rattle.card_layout.specs.Images.{number_at}
use Rattle.card_layout.specs.declared.files.Fid.{Fid}
use Rattle.card_layout.specs.Commands.{is_select, is_read, is_update, is_by_name, has_good_parameters, has_good_length, meaning, tachograph_name, command_of}
use Rattle.card_layout.specs.Outcomes.{Effect, Outcome, select_found, nothing, gives, puts, outcome_of, outcome_from, command_outcome, on_selected, select_outcome, read_outcome, update_outcome, found}
use Rattle.tach_media.specs.Medium.{State, IsCoherent, LeavesOnly, HasCause, Unchanged}
use Rattle.tach_media.specs.Chip.{Does}
use Rattle.tach_media.proofs.Runs.{weaken, from_reads}
use Rattle.card_service.specs.Answering.{Begins, PartlyBy, image_behind, IsRevived}

-- the image behind a command that was done
pub does_image : (e : Effect) (old new : State) → Does e old new false → new.image ≡ image_behind e old.image
does_image nothing old new does = does.same refl
does_image (gives file offset len) old new does = does.same refl
does_image (puts place bytes) old new does = does.written refl

-- an UPDATE BINARY puts 255 bytes at most
abbrev pub FewPut : Effect → Type 0
FewPut nothing = ⊤
FewPut (gives file offset len) = ⊤
FewPut (puts place bytes) = length bytes ≤ 255

-- how many writes begin, of a command that was done, and of one at which the card failed
pub does_begin : (e : Effect) (old new : State) → FewPut e → Does e old new false → Begins e old.clock new.clock
does_begin nothing old new few does = does.clock
does_begin (gives file offset len) old new few does = does.clock
does_begin (puts place bytes) old new few does = (does.clock refl, omega (arith, does.few, few))

pub does_clock : (e : Effect) (old new : State) (failed : Bool) → FewPut e → Does e old new failed → new.clock ≤ old.clock + 1
does_clock nothing old new failed few does = omega (arith, does.clock)
does_clock (gives file offset len) old new failed few does = omega (arith, does.clock)
does_clock (puts place bytes) old new failed few does = omega (arith, does.few, few)

-- what a stop inside a command leaves
pub does_leave : (e : Effect) (old new : State) (failed : Bool) → Does e old new failed → LeavesOnly old new (λ x c. PartlyBy e old.image c)
does_leave nothing old new failed does = from_reads does.leaves
does_leave (gives file offset len) old new failed does = from_reads does.leaves
does_leave (puts place bytes) old new failed does = weaken does.leaves (λ x c is here. (x, is, here))

pub does_cause : (e : Effect) (old new : State) (failed : Bool) → Does e old new failed → HasCause old new failed
does_cause nothing old new failed does = does.cause
does_cause (gives file offset len) old new failed does = does.cause
does_cause (puts place bytes) old new failed does = does.cause

same_image : (o p : Option (List ℕ)) → is_some o ≡ is_some p → ((x : List ℕ) → o ≡ Some x → p ≡ Some x) → o ≡ p
same_image None None tells all = refl
same_image None (Some x) tells all = absurd (cc)
same_image (Some x) p tells all = sym (all x refl)

-- a reset
pub revived : (old new : State) → IsCoherent old → IsCoherent new → LeavesOnly old new Unchanged → IsRevived old new.image
revived old new before after leaves = record {
  same = λ works. same_image new.image old.image leaves.tells (λ x is. before.only x works (was x is));
  left = was;
  tells = leaves.tells;
}
  where
    was : (x : List ℕ) → new.image ≡ Some x → old.may_leave x
    was x is = ⊎_elim (λ left. left) (λ here. absurd here.2) (leaves.now x (after.is_left x is))

-- what a call answered
pub where_ok : {T E P : Type 0} (r : Result T E) → is_err r ≡ false → OnOk r P → P
where_ok (Ok x) is p = p
where_ok (Err e) is p = absurd (cc)

pub where_err : {T E P : Type 0} (r : Result T E) → is_err r ≡ true → OnErr r P → P
where_err (Ok x) is p = absurd (cc)
where_err (Err e) is p = p

pub on_ok : {T E P : Type 0} (r : Result T E) → P → OnOk r P
on_ok (Ok x) p = p
on_ok (Err e) p = tt

-- ---- an UPDATE BINARY puts 255 bytes at most

third : (s r : Bool) (x y z : Bool) → s ≡ false → r ≡ false → (if s then x else if r then y else z) ≡ true → z ≡ true
third false false x y z select read is = is
third true r x y z select read is = absurd (cc)
third false true x y z select read is = absurd (cc)

few_data : (b : List ℕ) → slice_index b 4 < 256 → (length b == 5 + slice_index b 4) ≡ true → length (drop 5 b) ≤ 255
few_data b low is =
    let size : length b ≡ 5 + slice_index b 4 = grind (arith, nat_tests) in
    few_behind b (slice_index b 4) size low
  where
    few_behind : (b : List ℕ) (n : ℕ) → length b ≡ 5 + n → n < 256 → length (drop 5 b) ≤ 255
    few_behind b n size low = omega (arith, length-drop 5 b, size, low)

few_updated : (card : CardState) (file : ElementaryFile) (offset : ℕ) (bytes : List ℕ) → length bytes ≤ 255 → FewPut (update_outcome card file offset bytes).effect
few_updated card file offset bytes few =
    cond_both (not file.updated) _ _ (λ (o : Outcome). FewPut o.effect) (λ is. tt)
    (λ is. cond_both (nat_lt file.range.len offset) _ _ (λ (o : Outcome). FewPut o.effect) (λ is. tt)
    (λ is. cond_both (nat_lt file.range.len (offset + length bytes)) _ _ (λ (o : Outcome). FewPut o.effect) (λ is. tt) (λ is. few)))

few_read : (card : CardState) (file : ElementaryFile) (offset len : ℕ) → FewPut (read_outcome card file offset len).effect
few_read card file offset len =
    cond_both (nat_lt file.range.len offset) _ _ (λ (o : Outcome). FewPut o.effect) (λ is. tt)
    (λ is. cond_both (nat_lt file.range.len (offset + len)) _ _ (λ (o : Outcome). FewPut o.effect) (λ is. tt) (λ is. tt))

few_on : (card : CardState) (file : Option ElementaryFile) (o : ElementaryFile → Outcome) → ((f : ElementaryFile) → FewPut (o f).effect) → FewPut (on_selected card file o).effect
few_on card None o few = tt
few_on card (Some file) o few = few file

few_found : (card : CardState) (file : Option ElementaryFile) → FewPut (select_found card file).effect
few_found card None = tt
few_found card (Some file) = tt

few_selected : (card : CardState) (fid : Fid) → FewPut (select_outcome card fid).effect
few_selected card fid =
    cond_both (fid.0 == 0x3F00) _ _ (λ (o : Outcome). FewPut o.effect) (λ is. tt)
    (λ is. cond_both (fid.0 == 0x0500) _ _ (λ (o : Outcome). FewPut o.effect) (λ is. tt) (λ is. few_found card (found card fid)))

-- an UPDATE BINARY of 255 bytes at most
abbrev FewUpdated : Command → Type 0
FewUpdated Application = ⊤
FewUpdated (Select fid) = ⊤
FewUpdated (Read offset len) = ⊤
FewUpdated (Update offset bytes) = length bytes.items ≤ 255

few_command : (card : CardState) (m : Command) → FewUpdated m → FewPut (command_outcome card m).effect
few_command card Application few = tt
few_command card (Select fid) few = few_selected card fid
few_command card (Read offset len) few = few_on card card.selected (λ file. read_outcome card file offset len) (λ file. few_read card file offset len)
few_command card (Update offset bytes) few = few_on card card.selected (λ file. update_outcome card file offset bytes.items) (λ file. few_updated card file offset bytes.items few)

few_meant : (b : List ℕ) → slice_index b 4 < 256 → has_good_length b ≡ true → FewUpdated (meaning b)
few_meant b low good =
    cond_both (is_select b) _ _ FewUpdated (λ select. cond_both (is_by_name b) _ _ FewUpdated (λ named. tt) (λ named. tt))
    (λ none. cond_both (is_read b) _ _ FewUpdated (λ read. tt)
    (λ never. few_data b low (and_parts _ _ (third (is_select b) (is_read b) _ _ _ none never good)).1))

passed : (x : Bool) → not x ≡ false → x ≡ true
passed true is = refl
passed false is = absurd (cc)

pub few_put : (card : CardState) (b : List ℕ) → slice_index b 4 < 256 → FewPut (outcome_of card b).effect
few_put card b low =
    cond_both (nat_lt (length b) 5) _ _ P (λ is. tt)
    (λ is. cond_both (not (slice_index b 0 == 0)) _ _ P (λ is. tt)
    (λ is. cond_both (not (is_select b || is_read b || is_update b)) _ _ P (λ is. tt)
    (λ is. cond_both (not (has_good_parameters b)) _ _ P (λ is. tt)
    (λ is. cond_both (not (has_good_length b)) _ _ P (λ is. tt)
    (λ good. cond_both (is_select b && is_by_name b && not (bytes_eq (drop 5 b) tachograph_name)) _ _ P (λ is. tt)
    (λ is. few_command card (meaning b) (few_meant b low (passed (has_good_length b) good))))))))
  where
    P : Result Command ℕ → Type 0
    P r = FewPut (outcome_from card r).effect
