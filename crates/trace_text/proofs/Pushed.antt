-- What is put behind other items, one group after another.
use Rattle.std.proofs.Common.{◌≡◌, ℕ, ◌+◌, ◌-◌, ◌*◌, ◌/◌, ◌%◌, List, [], ◌∷◌, ◌++◌, ap, sym, ◌∙◌, append_assoc, append-nil, arith}
use Rattle.activity_codec.specs.declared.values.Slot.TheVariants.{Driver}
use Rattle.activity_codec.specs.declared.values.Pick.{Pick}
use Rattle.trace_model.specs.declared.Action.TheVariants.{Select}
use Rattle.trace_model.specs.declared.Item.{Item}
use Rattle.trace_model.specs.declared.Item.TheVariants.{Run, Act}
use Rattle.trace_model.specs.Trace.{total_seconds}
use Rattle.trace_text.specs.Demo.{next_drawn, drawn, pick_numbered, part, part_of, parts_of, day_of, days_of}
use Rattle.activity_codec.specs.declared.day.TheConstants.{DAY_SECONDS}
use Rattle.trace_text.specs.declared.drawn_trace.TheConstants.{PARTS}
use Rattle.trace_text.proofs.Groups.{drawn-one, drawn-two, drawn-three, parts-none, parts-more, days-none, days-more, day-is, total-append}

-- ---- a part, of three numbers that are drawn behind x

module _ (x stop drive pick : ℕ) (first : stop ≡ next_drawn x) (second : drive ≡ next_drawn stop) (third : pick ≡ next_drawn drive) where
  one : stop ≡ drawn 1 x
  one = first ∙ sym (drawn-one x)

  two : drive ≡ drawn 2 x
  two = second ∙ ap (λ (n : ℕ). next_drawn n) one ∙ sym (drawn-two x)

  pub three : pick ≡ drawn 3 x
  three = third ∙ ap (λ (n : ℕ). next_drawn n) two ∙ sym (drawn-three x)

  pub part-seconds : stop / 65536 % 3600 + 1 + (drive / 65536 % 5400 + 1) ≡ total_seconds (part_of x)
  part-seconds =
      let a : stop / 65536 % 3600 ≡ drawn 1 x / 65536 % 3600 = ap (λ (n : ℕ). n / 65536 % 3600) one in
      let b : drive / 65536 % 5400 ≡ drawn 2 x / 65536 % 5400 = ap (λ (n : ℕ). n / 65536 % 5400) two in
      omega (arith, a, b)

  part_is : part stop drive pick ≡ part_of x
  part_is =
      ap (λ (n : ℕ). part n drive pick) one
      ∙ ap (λ (n : ℕ). part (drawn 1 x) n pick) two
      ∙ ap (λ (n : ℕ). part (drawn 1 x) (drawn 2 x) n) three

  pub part-pushed : (p : Pick) (old a b c : List Item) → p ≡ pick_numbered (pick / 65536 % 3) → a ≡ old ++ Run (stop / 65536 % 3600 + 1) 0 ∷ []
      → b ≡ a ++ Run (drive / 65536 % 5400 + 1) (drive / 256 % 90 + 1) ∷ [] → c ≡ b ++ Act (Select Driver p) ∷ [] → c ≡ old ++ part_of x
  part-pushed p old a b c is a_is b_is c_is =
      let s = Run (stop / 65536 % 3600 + 1) 0 in
      let d = Run (drive / 65536 % 5400 + 1) (drive / 256 % 90 + 1) in
      let e = λ (q : Pick). Act (Select Driver q) in
      let all : c ≡ ((old ++ s ∷ []) ++ d ∷ []) ++ e p ∷ [] =
      c_is ∙ ap (λ (l : List Item). l ++ e p ∷ []) (b_is ∙ ap (λ (l : List Item). l ++ d ∷ []) a_is) in
      let one_list : ((old ++ s ∷ []) ++ d ∷ []) ++ e p ∷ [] ≡ old ++ (s ∷ d ∷ e p ∷ []) = simp append_assoc in
      all ∙ one_list ∙ ap (λ (q : Pick). old ++ (s ∷ d ∷ e q ∷ [])) is ∙ ap (λ (l : List Item). old ++ l) part_is

-- ---- the parts of a day

pub no-parts : (items : List Item) (x : ℕ) → items ≡ items ++ parts_of 0 x
no-parts items x = sym (ap (λ (l : List Item). items ++ l) (parts-none x) ∙ append-nil items)

pub no-seconds : (x : ℕ) → 0 ≡ total_seconds (parts_of 0 x)
no-seconds x = sym (ap (λ (l : List Item). total_seconds l) (parts-none x))

pub parts-pushed : (old before after : List Item) (k x last : ℕ) → before ≡ old ++ parts_of k x → last ≡ drawn (3 * k) x → after ≡ before ++ part_of last →
    after ≡ old ++ parts_of (k + 1) x
parts-pushed old before after k x last before_is last_is after_is =
    after_is
    ∙ ap (λ (l : List Item). l ++ part_of last) before_is
    ∙ append_assoc old (parts_of k x) (part_of last)
    ∙ ap (λ (n : ℕ). old ++ (parts_of k x ++ part_of n)) last_is
    ∙ ap (λ (l : List Item). old ++ l) (sym (parts-more k x))

pub parts-seconds : (k x last s t : ℕ) → last ≡ drawn (3 * k) x → s ≡ total_seconds (parts_of k x) → t ≡ total_seconds (part_of last) →
    s + t ≡ total_seconds (parts_of (k + 1) x)
parts-seconds k x last s t last_is s_is t_is =
    ap (λ (n : ℕ). n + t) s_is
    ∙ ap (λ (n : ℕ). total_seconds (parts_of k x) + n) (t_is ∙ ap (λ (n : ℕ). total_seconds (part_of n)) last_is)
    ∙ sym (total-append (parts_of k x) (part_of (drawn (3 * k) x)))
    ∙ ap (λ (l : List Item). total_seconds l) (sym (parts-more k x))

pub day-pushed : (old before after : List Item) (k x seconds : ℕ) → k ≡ PARTS → before ≡ old ++ parts_of k x → seconds ≡ total_seconds (parts_of k x) →
    after ≡ before ++ Run (DAY_SECONDS - seconds) 0 ∷ [] → after ≡ old ++ day_of x
day-pushed old before after k x seconds k_is before_is seconds_is after_is =
    let last = λ (n : ℕ). Run (DAY_SECONDS - n) 0 ∷ [] in
    let here : before ≡ old ++ parts_of PARTS x = before_is ∙ ap (λ (n : ℕ). old ++ parts_of n x) k_is in
    let sum : seconds ≡ total_seconds (parts_of PARTS x) = seconds_is ∙ ap (λ (n : ℕ). total_seconds (parts_of n x)) k_is in
    after_is
    ∙ ap (λ (l : List Item). l ++ last seconds) here
    ∙ ap (λ (n : ℕ). (old ++ parts_of PARTS x) ++ last n) sum
    ∙ append_assoc old (parts_of PARTS x) (last (total_seconds (parts_of PARTS x)))
    ∙ ap (λ (l : List Item). old ++ l) (sym (day-is x))

-- ---- the days

pub no-days : (items : List Item) (x : ℕ) → items ≡ items ++ days_of 0 x
no-days items x = sym (ap (λ (l : List Item). items ++ l) (days-none x) ∙ append-nil items)

pub days-pushed : (old before after : List Item) (d x last : ℕ) → before ≡ old ++ days_of d x → last ≡ drawn (3 * PARTS * d) x → after ≡ before ++ day_of last →
    after ≡ old ++ days_of (d + 1) x
days-pushed old before after d x last before_is last_is after_is =
    after_is
    ∙ ap (λ (l : List Item). l ++ day_of last) before_is
    ∙ append_assoc old (days_of d x) (day_of last)
    ∙ ap (λ (n : ℕ). old ++ (days_of d x ++ day_of n)) last_is
    ∙ ap (λ (l : List Item). old ++ l) (sym (days-more d x))
