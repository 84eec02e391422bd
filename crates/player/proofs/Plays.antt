-- A script that is played call by call. Assumes nothing.
use Rattle.std.proofs.Common.{◌≡◌, ℕ, ◌+◌, ◌<◌, List, [], ◌∷◌, ◌++◌, map, length, get_or, take, set, ap, ◌∙◌, ap₂}
use Rattle.std.proofs.lemmas.List.{map_push, take_more, take_more_set}
use Rattle.charge.specs.Groups.{Kind}
use Rattle.automaton.specs.Meanings.{Local, Weights}
use Rattle.player.specs.Calls.{PlayerCall, PlayerStrips}
use Rattle.player.specs.Scripts.{played_more, played}
use Rattle.player.proofs.Scripts.{played_push}

-- one call more of a script
pub script_more : {C X : Type 0} (K : Kind C) (r : Local) (d : Weights K.group.Carrier) (s : PlayerStrips K.group.Carrier) (asked : X → PlayerCall) (script : List X) (i : ℕ) (none : X) →
    i < length script → played K r d s (map asked (take (i + 1) script)) ≡ played_more K r d (played K r d s (map asked (take i script))) (asked (get_or script i none))
script_more K r d s asked script i none h =
    ap (λ xs. played K r d s (map asked xs)) (take_more script i none h)
    ∙ ap (played K r d s) (map_push asked (take i script) (get_or script i none))
    ∙ played_push K r d s (map asked (take i script)) (asked (get_or script i none))

-- one answer more
pub answers_more : {X Y : Type 0} (f : X → Y) (answers : List X) (i : ℕ) (x : X) (said : List Y) (y : Y) → i < length answers → map f (take i answers) ≡ said → f x ≡ y →
    map f (take (i + 1) (set answers i x)) ≡ said ++ (y ∷ [])
answers_more f answers i x said y h so_far is =
    ap (map f) (take_more_set answers i x h) ∙ map_push f (take i answers) x ∙ ap₂ (λ t z. t ++ (z ∷ [])) so_far is
