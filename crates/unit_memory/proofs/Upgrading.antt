-- The images while a unit is upgraded.
use Rattle.std.proofs.Common.{◌≡◌, ◌⊎◌, inl, inr, ⊎_elim, ℕ, Bool, true, false, List, [], ◌∷◌, length, refl, sym, ◌∙◌, ap, subst, arith, lit≤}
use Rattle.std.specs.Prelude.{◌==◌, ◌||◌}
use Rattle.std.proofs.lemmas.Bool.Decides.{nat_tests}
use Rattle.tach_media.specs.Medium.{IsPartlyWritten}
use Rattle.tach_media.proofs.Images.{outside_same}
use Rattle.unit_model.specs.declared.layout.TheConstants.{IMAGE_SIZE, RULE_BYTE, SPARE, VERSION}
use Rattle.unit_model.specs.Decoding.{Decodes}
use Rattle.unit_model.specs.Versions.{version_of, ruled, upgraded, IsSameButRule}
use Rattle.unit_model.proofs.Checks.{front_split, good_of}
use Rattle.unit_model.proofs.Versions.{recorded_same, kept_same, odometer_same, rows_same, rings_same, ruled_is, upgraded_is, ruled_decodes, upgraded_decodes}
use Rattle.unit_memory.specs.Identified.{version_known}
use Rattle.unit_memory.specs.Upgrades.{IsUpgrading}

-- an image that decodes has version 1 or 2
either_true : (a b : Bool) → (a || b) ≡ true → (a ≡ true) ⊎ (b ≡ true)
either_true true b is = inl refl
either_true false b is = inr is

eq_of : (a b : ℕ) → (a == b) ≡ true → a ≡ b
eq_of a b is = grind (arith, nat_tests)

pub two_versions : (x : List ℕ) → Decodes x → (version_of x ≡ 1) ⊎ (version_of x ≡ 2)
two_versions x decodes = ⊎_elim (λ one. inl (eq_of (version_of x) 1 one)) (λ two. inr (eq_of (version_of x) 2 two)) (either_true (version_of x == 1) (version_of x == 2) (front_split x (good_of x decodes).front).version)

-- so its number is known by whether it is 1
pub known_version : (x : List ℕ) (v : ℕ) → Decodes x → v ≡ version_of x → version_known v ≡ version_of x
known_version x v decodes is = ap version_known is ∙ ⊎_elim (λ one. ap version_known one ∙ sym one) (λ two. ap version_known two ∙ sym two) (two_versions x decodes)

-- a moment, by what it leaves of the bytes
moment : (x c : List ℕ) → IsSameButRule x c → Decodes c → IsUpgrading x c
moment x c same decodes = record {
  same = same;
  decodes = decodes;
  minutes = recorded_same x c same.behind;
  kept = kept_same x c same.behind;
  odometer = odometer_same x c same.behind;
  owed = rows_same x c same.behind;
  rings = rings_same x c same.behind;
}

module _ (x : List ℕ) (sized : length x ≡ IMAGE_SIZE) (plain : version_of x ≡ 1) (decodes : Decodes x) where
  nothing_yet : IsUpgrading x x
  nothing_yet = moment x x (record { between = refl; behind = outside_same VERSION.place SPARE.place x; version = inl refl }) decodes

  rule_written : IsUpgrading x (ruled x)
  rule_written = moment x (ruled x) (ruled_is x sized) (ruled_decodes x sized plain decodes)

  version_written : IsUpgrading x (upgraded x)
  version_written = moment x (upgraded x) (upgraded_is x sized) (upgraded_decodes x sized decodes)

  -- the moments of the first write, and of the second
  pub first_moment : (c : List ℕ) → IsPartlyWritten RULE_BYTE.place (1 ∷ []) x c → IsUpgrading x c
  first_moment c part = ⊎_elim (λ absent. subst (IsUpgrading x) (sym absent) nothing_yet) (λ whole. subst (IsUpgrading x) (sym whole) rule_written) (part.whole (lit≤ tt))

  pub next_moment : (c : List ℕ) → IsPartlyWritten VERSION.place (0 ∷ 0 ∷ 0 ∷ 2 ∷ []) (ruled x) c → IsUpgrading x c
  next_moment c part = ⊎_elim (λ absent. subst (IsUpgrading x) (sym absent) rule_written) (λ whole. subst (IsUpgrading x) (sym whole) version_written) (part.whole (lit≤ tt))
