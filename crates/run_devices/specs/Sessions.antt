-- How the session of a card goes on, by Current_Usage of its images (profile): over calls, whatever of them failed.
use Rattle.std.specs.Prelude.{◌≡◌, ◌⊎◌, ℕ, List}
use Rattle.tach_media.specs.card_layout.declared.files.Application.{Application}
use Rattle.device_calls.specs.card_image.Fields.{session_time}

-- THE SESSION OF AN IMAGE GOES ON, by these sizes: it is that of another image, or one that may come
abbrev pub SessionGoes : Application → (May : ℕ → Type 0) → (x y : List ℕ) → Type 0
SessionGoes app May x y = (session_time app y ≡ session_time app x) ⊎ May (session_time app y)

-- no session is open, as a closing leaves it
abbrev pub IsNone : (session : ℕ) → Type 0
IsNone t = t ≡ 0

-- in an insertion: no session is open, or that of now
abbrev pub IsNoneOr : (now session : ℕ) → Type 0
IsNoneOr now t = (t ≡ 0) ⊎ (t ≡ now)
