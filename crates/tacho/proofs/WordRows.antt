-- Words and what they ask for, computed.
use Rattle.std.specs.Prelude.{◌≡◌, ℕ, Option, Some, None, [], ◌∷◌, ◌++◌, codes, replicate, refl}
use Rattle.std.proofs.Common.{ap, sym, arith}
use Rattle.std.proofs.lemmas.Fmt.{decimal_digit}
use Rattle.std.specs.Fmt.{digits}
use Rattle.minute_model.specs.declared.Rule.TheVariants.{Original, Amended}
use Rattle.trace_model.specs.declared.Card.TheVariants.{A, B}
use Rattle.tacho.specs.declared.forms.Form.TheVariants.{Minutes, Upgrade, State, Serve, ServeHex, ServePackets, ServeCard, Download, DownloadNoisy, DownloadPackets, Read, Help, Version}
use Rattle.tacho.specs.declared.forms.Reading.TheVariants.{View, ByHand, Match, MatchAll, Totals, Speeds, Show}
use Rattle.tacho.specs.declared.forms.TheConstants.{PLATE, SEED_MOST}
use Rattle.tacho.specs.Texts.{word_in, number_in}
use Rattle.trace_model.specs.Names.{card_named}
use Rattle.tacho.specs.Forms.{◌>>=◌, name_in, form_of}
use Rattle.tacho.proofs.Spelled.{in-range}

minutes-row : form_of (codes "minutes" ∷ []) ≡ Some (Minutes Original)
unfolding form_of
minutes-row = refl

amended-row : form_of (codes "minutes" ∷ codes "2009" ∷ []) ≡ Some (Minutes Amended)
unfolding form_of
amended-row = refl

other-year-row : form_of (codes "minutes" ∷ codes "2010" ∷ []) ≡ None
unfolding form_of
other-year-row = refl

misspelled-row : form_of (codes "minute" ∷ []) ≡ None
unfolding form_of
misspelled-row = refl

upgrade-row : form_of (codes "upgrade" ∷ []) ≡ Some Upgrade
unfolding form_of
upgrade-row = refl

state-row : form_of (codes "state" ∷ []) ≡ Some State
unfolding form_of
state-row = refl

serve-row : form_of (codes "serve" ∷ []) ≡ Some Serve
unfolding form_of
serve-row = refl

hex-row : form_of (codes "serve" ∷ codes "--hex" ∷ []) ≡ Some ServeHex
unfolding form_of
hex-row = refl

help-row : form_of (codes "help" ∷ []) ≡ Some Help
unfolding form_of
help-row = refl

help-dash-row : form_of (codes "--help" ∷ []) ≡ Some Help
unfolding form_of
help-dash-row = refl

version-row : form_of (codes "--version" ∷ []) ≡ Some Version
unfolding form_of
version-row = refl

other-dash-row : form_of (codes "serve" ∷ codes "-hex" ∷ []) ≡ None
unfolding form_of
other-dash-row = refl

download-row : form_of (codes "download" ∷ []) ≡ Some Download
unfolding form_of
download-row = refl

serve-packets-row : form_of (codes "serve" ∷ codes "packets" ∷ []) ≡ Some ServePackets
unfolding form_of
serve-packets-row = refl

download-packets-row : form_of (codes "download" ∷ codes "packets" ∷ []) ≡ Some DownloadPackets
unfolding form_of
download-packets-row = refl

serve-card-row : form_of (codes "serve" ∷ codes "card" ∷ codes "a" ∷ []) ≡ Some (ServeCard A)
unfolding form_of
serve-card-row = refl

no-third-card-row : form_of (codes "serve" ∷ codes "card" ∷ codes "c" ∷ []) ≡ None
unfolding form_of
no-third-card-row = refl

seven-row : number_in 0 SEED_MOST (codes "7") ≡ Some 7
seven-row = in-range 0 SEED_MOST 7 (codes "7") (omega arith) (sym (decimal_digit 7 (omega arith))) (omega arith) (omega arith)

noisy-row : form_of (codes "download" ∷ codes "noisy" ∷ codes "7" ∷ []) ≡ Some (DownloadNoisy 7)
unfolding form_of
noisy-row = ap (λ (o : Option ℕ). o >>= (λ seed. Some (DownloadNoisy seed))) seven-row

no-noisy-row : form_of (codes "download" ∷ codes "noisy" ∷ codes "2147483648" ∷ []) ≡ None
unfolding form_of number_in
no-noisy-row = refl

view-row : form_of (codes "view" ∷ []) ≡ Some (Read (View None))
unfolding form_of
view-row = refl

by-hand-row : form_of (codes "view" ∷ codes "manual" ∷ []) ≡ Some (Read ByHand)
unfolding form_of
by-hand-row = refl

match-row : form_of (codes "match" ∷ []) ≡ Some (Read Match)
unfolding form_of
match-row = refl

match-all-row : form_of (codes "match" ∷ codes "all" ∷ []) ≡ Some (Read MatchAll)
unfolding form_of
match-all-row = refl

totals-row : form_of (codes "totals" ∷ []) ≡ Some (Read (Totals None))
unfolding form_of
totals-row = refl

chart-too-many-row : form_of (codes "chart" ∷ codes "last" ∷ codes "367" ∷ []) ≡ None
unfolding form_of number_in
chart-too-many-row = refl

speeds-row : form_of (codes "speeds" ∷ []) ≡ Some (Read (Speeds None))
unfolding form_of
speeds-row = refl

speeds-last-row : form_of (codes "speeds" ∷ codes "last" ∷ codes "1440" ∷ []) ≡ Some (Read (Speeds (Some 1440)))
unfolding form_of number_in digits
speeds-last-row = refl

speeds-too-many-row : form_of (codes "speeds" ∷ codes "last" ∷ codes "1441" ∷ []) ≡ None
unfolding form_of number_in
speeds-too-many-row = refl

show-row : form_of (codes "show" ∷ []) ≡ Some (Read (Show None))
unfolding form_of
show-row = refl

show-last-row : form_of (codes "show" ∷ codes "last" ∷ codes "2" ∷ []) ≡ Some (Read (Show (Some 2)))
unfolding form_of number_in digits
show-last-row = refl

not-last-row : form_of (codes "view" ∷ codes "first" ∷ codes "1" ∷ []) ≡ None
unfolding form_of
not-last-row = refl

two-words-row : form_of (codes "minutes" ∷ codes "minutes" ∷ []) ≡ None
unfolding form_of
two-words-row = refl

card-row : card_named (codes "b") ≡ Some B
card-row = refl

name-row : name_in (codes "Doe") ≡ Some (record { 0 = 1 ∷ (codes "Doe" ++ replicate 32 32) })
name-row = refl

dash-row : word_in 1 PLATE (codes "-AB1") ≡ None
dash-row = refl

long-row : word_in 1 PLATE (codes "ABCDEFGHIJKLMN") ≡ None
long-row = refl

no-demo-row : form_of (codes "demo" ∷ codes "2147483648" ∷ []) ≡ None
unfolding form_of number_in
no-demo-row = refl
