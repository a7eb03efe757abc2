-- The file in which a place of the flat image lies.
use Rattle.std.proofs.Common.{◌≡◌, ⊎_elim, ℕ, ◌+◌, ◌≤◌, ◌<◌, ◌==◌, ◌||◌, ◌&&◌, not, nat_lt, if◌then◌else◌, Bool, true, false, List, [], ◌∷◌, map, Option, Some, None, option_map, is_none, is_some, refl, sym, ◌∙◌, ap, subst, arith}
use Rattle.std.specs.Prelude.{option_and_then}
use Rattle.std.proofs.lemmas.Bool.{eqb-true, eq-eqb}
use Rattle.std.proofs.lemmas.Bool.Decides.{nat_tests}
use Rattle.card_layout.specs.declared.files.Application.{Application}
use Rattle.card_layout.specs.declared.files.CardFile.{CardFile}
use Rattle.card_layout.specs.declared.files.Fid.{Fid}
use Rattle.card_layout.specs.declared.files.Range.{Range}
use Rattle.card_layout.specs.Application.{first_bad_field, application_of}
use Rattle.card_layout.specs.Files.{files_of, range_from, range_of, total_size, image_size_of, is_updated_in, is_updated, updated_from, is_listed}
use Rattle.card_layout.specs.declared.command.ElementaryFile.{ElementaryFile}
use Rattle.tach_media.specs.Medium.{LiesInside}
use Rattle.card_layout.specs.Outcomes.{is_fixed, fixed_range, sized_file, file_of}
use Rattle.card_commands.specs.Ports.{file_from, file_at, writable_of, told_by}

-- a file as the table has it, from a base on
abbrev file_here : ℕ → CardFile → ElementaryFile
file_here base f = record { fid = f.fid; range = record { base = base; len = f.size }; updated = f.updated }

-- what a test of a number says
lt_says : (m n : ℕ) (b : Bool) → nat_lt m n ≡ b → b ≡ true → m < n
lt_says m n b is positive = let test : nat_lt m n ≡ true = is ∙ positive in grind (arith, nat_tests)

ge_says : (m n : ℕ) (b : Bool) → nat_lt m n ≡ b → b ≡ false → n ≤ m
ge_says m n b is off = let test : nat_lt m n ≡ false = is ∙ off in grind (arith, nat_tests)

-- there is one for each place of the image
pub from_some : (base : ℕ) (fs : List CardFile) (place : ℕ) → base ≤ place → place < base + total_size fs → is_some (file_from base fs place) ≡ true
from_some base [] place low high = absurd (omega (arith, low, high))
from_some base (f ∷ fs) place low high = here (nat_lt place (base + f.size)) refl (λ behind. from_some (base + f.size) fs place behind (omega (arith, high)))
  where
    here : (b : Bool) → nat_lt place (base + f.size) ≡ b → (base + f.size ≤ place → is_some (file_from (base + f.size) fs place) ≡ true)
        → is_some (if b then Some (file_here base f) else file_from (base + f.size) fs place) ≡ true
    here true is later = refl
    here false is later = later (ge_says place (base + f.size) false is refl)

-- and the place lies in it
pub from_within : (base : ℕ) (fs : List CardFile) (place : ℕ) (file : ElementaryFile) → base ≤ place → file_from base fs place ≡ Some file
    → (file.range.base ≤ place) × (place < file.range.base + file.range.len) × (file.range.base + file.range.len ≤ base + total_size fs)
from_within base [] place file low is = absurd (cc)
from_within base (f ∷ fs) place file low is = here (nat_lt place (base + f.size)) refl is (λ behind there. from_within (base + f.size) fs place file behind there)
  where
    here : (b : Bool) → nat_lt place (base + f.size) ≡ b → (if b then Some (file_here base f) else file_from (base + f.size) fs place) ≡ Some file
        → (base + f.size ≤ place → file_from (base + f.size) fs place ≡ Some file → (file.range.base ≤ place) × (place < file.range.base + file.range.len) × (file.range.base + file.range.len ≤ base + f.size + total_size fs))
        → (file.range.base ≤ place) × (place < file.range.base + file.range.len) × (file.range.base + file.range.len ≤ base + (f.size + total_size fs))
    here true test at later =
        let q : ElementaryFile = file_here base f in
        let same : q ≡ file = cc in
        subst (λ (p : ElementaryFile). (p.range.base ≤ place) × (place < p.range.base + p.range.len) × (p.range.base + p.range.len ≤ base + (f.size + total_size fs))) same
        (low, lt_says place (base + f.size) true test refl, omega arith)
    here false test at later =
        let there = later (ge_says place (base + f.size) false test refl) at in
        (there.0, there.1, omega (arith, there.2))

-- it is one of these files
pub from_listed : (base : ℕ) (fs : List CardFile) (place : ℕ) (file : ElementaryFile) → file_from base fs place ≡ Some file → is_listed fs file.fid ≡ true
from_listed base [] place file is = absurd (cc)
from_listed base (f ∷ fs) place file is = here (nat_lt place (base + f.size)) is (λ there. from_listed (base + f.size) fs place file there)
  where
    at_once : (b : Bool) → b ≡ true → (if b then true else is_listed fs file.fid) ≡ true
    at_once true positive = refl
    at_once false positive = absurd (cc)

    late : (b : Bool) → is_listed fs file.fid ≡ true → (if b then true else is_listed fs file.fid) ≡ true
    late true positive = refl
    late false positive = positive

    here : (b : Bool) → (if b then Some (file_here base f) else file_from (base + f.size) fs place) ≡ Some file → (file_from (base + f.size) fs place ≡ Some file → is_listed fs file.fid ≡ true) → is_listed (f ∷ fs) file.fid ≡ true
    here true at later = let q : ElementaryFile = file_here base f in let same : q ≡ file = cc in at_once (file.fid.0 == f.fid.0) (eq-eqb file.fid.0 f.fid.0 (ap (λ (e : ElementaryFile). e.fid.0) (sym same)))
    here false at later = late (file.fid.0 == f.fid.0) (later at)

-- the identifiers differ from one another
abbrev are_distinct : List CardFile → Bool
are_distinct [] = true
are_distinct (f ∷ fs) = not (is_listed fs f.fid) && are_distinct fs

first_part : (a b : Bool) → (not a && b) ≡ true → (a ≡ false) × (b ≡ true)
first_part true b is = absurd (cc)
first_part false b is = (refl, is)

-- the table has it at its identifier
pub from_range : (base : ℕ) (fs : List CardFile) (place : ℕ) (file : ElementaryFile) → are_distinct fs ≡ true → file_from base fs place ≡ Some file → (range_from base fs file.fid ≡ Some file.range) × (is_updated_in fs file.fid ≡ file.updated)
from_range base [] place file apart is = absurd (cc)
from_range base (f ∷ fs) place file apart is =
    let parts = first_part (is_listed fs f.fid) (are_distinct fs) apart in
    here (nat_lt place (base + f.size)) is (λ there. from_range (base + f.size) fs place file parts.1 there) (λ there. from_listed (base + f.size) fs place file there) parts.0
  where
    at_once : (b : Bool) (r : Range) (o : Option Range) (p q : Bool) → b ≡ true → ((if b then Some r else o) ≡ Some r) × ((if b then p else q) ≡ p)
    at_once true r o p q positive = (refl, refl)
    at_once false r o p q positive = absurd (cc)

    late : (b : Bool) (r : Range) (o : Option Range) (p q : Bool) → b ≡ false → ((if b then Some r else o) ≡ o) × ((if b then p else q) ≡ q)
    late true r o p q off = absurd (cc)
    late false r o p q off = (refl, refl)

    differ : (b : Bool) → (file.fid.0 == f.fid.0) ≡ b → is_listed fs file.fid ≡ true → is_listed fs f.fid ≡ false → b ≡ false
    differ false test one other = refl
    differ true test one other =
        let same : is_listed fs file.fid ≡ is_listed fs f.fid = ap (λ (m : ℕ). is_listed fs (record { 0 = m })) (eqb-true file.fid.0 f.fid.0 test) in
        absurd (let both : true ≡ false = sym one ∙ same ∙ other in cc)

    here : (b : Bool) → (if b then Some (file_here base f) else file_from (base + f.size) fs place) ≡ Some file
        → (file_from (base + f.size) fs place ≡ Some file → (range_from (base + f.size) fs file.fid ≡ Some file.range) × (is_updated_in fs file.fid ≡ file.updated))
        → (file_from (base + f.size) fs place ≡ Some file → is_listed fs file.fid ≡ true) → is_listed fs f.fid ≡ false
        → (range_from base (f ∷ fs) file.fid ≡ Some file.range) × (is_updated_in (f ∷ fs) file.fid ≡ file.updated)
    here true at later listed alone =
        let q : ElementaryFile = file_here base f in
        let same : q ≡ file = cc in
        let both = at_once (file.fid.0 == f.fid.0) (record { base = base; len = f.size }) (range_from (base + f.size) fs file.fid) f.updated (is_updated_in fs file.fid) (eq-eqb file.fid.0 f.fid.0 (ap (λ (e : ElementaryFile). e.fid.0) (sym same))) in
        (both.0 ∙ ap (λ (e : ElementaryFile). Some e.range) same, both.1 ∙ ap (λ (e : ElementaryFile). e.updated) same)
    here false at later listed alone =
        let there = later at in
        let both = late (file.fid.0 == f.fid.0) (record { base = base; len = f.size }) (range_from (base + f.size) fs file.fid) f.updated (is_updated_in fs file.fid) (differ (file.fid.0 == f.fid.0) refl (listed at) alone) in
        (both.0 ∙ there.0, both.1 ∙ there.1)

-- the three files whose places no sizes move
one_of_three : (a b c : Bool) (p q r : Range) (rest : Option Range) → (a || b || c) ≡ true → (if a then Some p else if b then Some q else if c then Some r else rest) ≡ Some (if a then p else if b then q else r)
one_of_three true b c p q r rest is = refl
one_of_three false true c p q r rest is = refl
one_of_three false false true p q r rest is = refl
one_of_three false false false p q r rest is = absurd (cc)

none_of_three : (a b c rest : Bool) → (a || b || c) ≡ true → (if a then false else if b then false else if c then false else rest) ≡ false
none_of_three true b c rest is = refl
none_of_three false true c rest is = refl
none_of_three false false true rest is = refl
none_of_three false false false rest is = absurd (cc)

fixed_range_is : (app : Application) (fid : Fid) → is_fixed fid ≡ true → range_of app fid ≡ Some (fixed_range fid)
unfolding files_of
fixed_range_is app fid is = one_of_three (fid.0 == 0x0002) (fid.0 == 0x0005) (fid.0 == 0x0501) (record { base = 0; len = 25 }) (record { base = 25; len = 8 }) (record { base = 33; len = 10 }) _ is

fixed_stays : (app : Application) (fid : Fid) → is_fixed fid ≡ true → is_updated app fid ≡ false
unfolding files_of
fixed_stays app fid is = none_of_three (fid.0 == 0x0002) (fid.0 == 0x0005) (fid.0 == 0x0501) _ is

table_distinct : (app : Application) → are_distinct (files_of app) ≡ true
unfolding files_of
table_distinct app = refl

pub at_within : (app : Application) (place : ℕ) (file : ElementaryFile) → file_at app place ≡ Some file → (file.range.base ≤ place) × (place < file.range.base + file.range.len) × (file.range.base + file.range.len ≤ image_size_of app)
unfolding file_at
at_within app place file is = let within = from_within 0 (files_of app) place file (omega arith) is in (within.0, within.1, omega (arith, within.2))

pub at_some : (app : Application) (place : ℕ) → place < image_size_of app → is_some (file_at app place) ≡ true
unfolding file_at
at_some app place inside = from_some 0 (files_of app) place (omega arith) (omega (arith, inside))

at_range : (app : Application) (place : ℕ) (file : ElementaryFile) → file_at app place ≡ Some file → (range_of app file.fid ≡ Some file.range) × (is_updated app file.fid ≡ file.updated)
unfolding file_at
at_range app place file is = from_range 0 (files_of app) place file (table_distinct app) is

-- a card that goes by these sizes finds the file
whole_file : (file : ElementaryFile) (r : Range) (u : Bool) → r ≡ file.range → u ≡ file.updated → record { fid = file.fid; range = r; updated = u } ≡ file
whole_file file r u at up = ap (λ (q : Range). record { fid = file.fid; range = q; updated = u }) at ∙ ap (λ (v : Bool). record { fid = file.fid; range = file.range; updated = v }) up

told_is : (b : Bool) (told app : Application) → (if b then Some told else None) ≡ Some app → (b ≡ true) × (told ≡ app)
told_is true told app is = (refl, cc)
told_is false told app is = absurd (cc)

sized_is : (b : Bool) (o : Option Range) (u : Bool) (file : ElementaryFile) → b ≡ true → o ≡ Some file.range → u ≡ file.updated
    → (if b then option_map (λ r. record { fid = file.fid; range = r; updated = u }) o else None) ≡ Some file
sized_is false o u file positive at up = absurd (cc)
sized_is true None u file positive at up = absurd (cc)
sized_is true (Some r) u file positive at up = let range : r ≡ file.range = cc in ap Some (whole_file file r u range up)

pub finds_file : (app : Application) (place : ℕ) (file : ElementaryFile) (application : Option (List ℕ)) → file_at app place ≡ Some file → option_and_then told_by application ≡ Some app → file_of application file.fid ≡ Some file
finds_file app place file None is told = absurd (cc)
finds_file app place file (Some bytes) is told = here (is_fixed file.fid) refl
  where
    here : (b : Bool) → is_fixed file.fid ≡ b → (if b then Some (record { fid = file.fid; range = fixed_range file.fid; updated = false }) else sized_file bytes file.fid) ≡ Some file
    here true fixed =
        let there = at_range app place file is in
        let range : Some (fixed_range file.fid) ≡ Some file.range = sym (fixed_range_is app file.fid fixed) ∙ there.0 in
        let stays : false ≡ file.updated = sym (fixed_stays app file.fid fixed) ∙ there.1 in
        let at : fixed_range file.fid ≡ file.range = cc in
        ap Some (whole_file file (fixed_range file.fid) false at stays)
    here false other =
        let there = at_range app place file is in
        let says = told_is (is_none (first_bad_field bytes)) (application_of bytes) app told in
        sized_is (is_none (first_bad_field bytes)) (range_of (application_of bytes) file.fid) (is_updated (application_of bytes) file.fid) file says.0
        (ap (λ (a : Application). range_of a file.fid) says.1 ∙ there.0) (ap (λ (a : Application). is_updated a file.fid) says.1 ∙ there.1)

lies_behind : (base : ℕ) (fs : List CardFile) (place len : ℕ) → LiesInside (map (λ r. (r.base, r.len)) (updated_from base fs)) place len → base ≤ place
lies_behind base [] place len lies = absurd lies
lies_behind base (f ∷ fs) place len lies = here f.updated lies (λ there. lies_behind (base + f.size) fs place len there)
  where
    here : (b : Bool) → LiesInside (map (λ r. (r.base, r.len)) (if b then record { base = base; len = f.size } ∷ updated_from (base + f.size) fs else updated_from (base + f.size) fs)) place len
        → (LiesInside (map (λ r. (r.base, r.len)) (updated_from (base + f.size) fs)) place len → base + f.size ≤ place) → base ≤ place
    here true lies later = ⊎_elim (λ at. at.0) (λ there. omega (arith, later there)) lies
    here false lies later = omega (arith, later lies)

from_updated : (base : ℕ) (fs : List CardFile) (place len : ℕ) (file : ElementaryFile) → 0 < len → LiesInside (map (λ r. (r.base, r.len)) (updated_from base fs)) place len → file_from base fs place ≡ Some file
    → (file.updated ≡ true) × (place + len ≤ file.range.base + file.range.len)
from_updated base [] place len file some lies is = absurd lies
from_updated base (f ∷ fs) place len file some lies is =
    here f.updated refl (nat_lt place (base + f.size)) refl lies is (λ there at. from_updated (base + f.size) fs place len file some there at) (λ there. lies_behind (base + f.size) fs place len there)
  where
    here : (u : Bool) → f.updated ≡ u → (b : Bool) → nat_lt place (base + f.size) ≡ b
        → LiesInside (map (λ r. (r.base, r.len)) (if u then record { base = base; len = f.size } ∷ updated_from (base + f.size) fs else updated_from (base + f.size) fs)) place len
        → (if b then Some (file_here base f) else file_from (base + f.size) fs place) ≡ Some file
        → (LiesInside (map (λ r. (r.base, r.len)) (updated_from (base + f.size) fs)) place len → file_from (base + f.size) fs place ≡ Some file → (file.updated ≡ true) × (place + len ≤ file.range.base + file.range.len))
        → (LiesInside (map (λ r. (r.base, r.len)) (updated_from (base + f.size) fs)) place len → base + f.size ≤ place)
        → (file.updated ≡ true) × (place + len ≤ file.range.base + file.range.len)
    here true up true test lies at later behind =
        let q : ElementaryFile = file_here base f in
        let same : q ≡ file = cc in
        let low = lt_says place (base + f.size) true test refl in
        subst (λ (p : ElementaryFile). (p.updated ≡ true) × (place + len ≤ p.range.base + p.range.len)) same
        (up, ⊎_elim (λ inside. inside.1) (λ there. absurd (omega (arith, behind there, low))) lies)
    here true up false test lies at later behind =
        let high = ge_says place (base + f.size) false test refl in
        ⊎_elim (λ inside. absurd (omega (arith, inside.1, high, some))) (λ there. later there at) lies
    here false up true test lies at later behind = absurd (omega (arith, behind lies, lt_says place (base + f.size) true test refl))
    here false up false test lies at later behind = later lies at

-- a range that may be written lies in one file, which is updated
pub at_updated : (app : Application) (place len : ℕ) (file : ElementaryFile) → 0 < len → LiesInside (writable_of app) place len → file_at app place ≡ Some file → (file.updated ≡ true) × (place + len ≤ file.range.base + file.range.len)
unfolding file_at
at_updated app place len file some lies is = from_updated 0 (files_of app) place len file some lies is
