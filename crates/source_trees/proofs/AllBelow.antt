-- All that a walk comes to is below the path that it began with.
use Rattle.std.proofs.Common.{◌≡◌, refl, sym, subst, ℕ, Bool, List, [], ◌∷◌, ◌++◌, Option, Some, None, All, Contains, map, flat_map, string_bytes}
use Rattle.std.proofs.lemmas.List.{append-nil, map-append}
use Rattle.std.proofs.lemmas.List.Elements.{All-append, All-cons, All-contains_itself, All-head, All-map, All-nil, All-tail}
use Rattle.std.proofs.lemmas.Map.Views.{All-map-IsPermutation}
use Rattle.shelves.specs.Shelf.{Named, Shelved}
use Rattle.source_trees.specs.declared.stops.Stop.{Stop}
use Rattle.source_trees.specs.declared.stops.Visit.{Visit}
use Rattle.source_trees.specs.declared.walk.Seen.{Seen}
use Rattle.source_trees.specs.declared.walk.Seen.TheVariants as seen
use Rattle.source_trees.specs.Stops.{AreStopsIn, Stopped, below, has_cargo, looked_at, shown_stop, stop_at, stop_in}
use Rattle.source_trees.specs.Visits.{visit_of}
use Rattle.source_trees.specs.Walks.{AreAllBelow, AreBelow, AreSeen, AreTaken, IsBelow, IsTaken, inside, itself, path_of, none, file, left_out, left_behind, folder, unread, nothing_taken, then_taken}
use Rattle.source_trees.proofs.Steps.{all_seen_behind}

-- at the beginning nothing was taken
pub begun : (s : Shelved) (stops : List Stop) → AreTaken s stops [] stops
begun s stops = nothing_taken

-- what comes next is taken too
pub further : (s : Shelved) (stops now after : List Stop) (all : List Seen) (x : Seen)
    → AreTaken s stops all now → IsTaken s now x after → AreTaken s stops (all ++ x ∷ []) after
further s stops now after all x far is = then_taken x far is

-- where nothing is yet to come, all is seen
pub finished : (s : Shelved) (stops now : List Stop) (all : List Seen)
    → AreTaken s stops all now → now ≡ [] → AreSeen s stops all
finished s stops now all far is =
    subst (λ xs. AreSeen s stops xs) (append-nil all)
    (all_seen_behind s [] far (subst (λ xs. AreSeen s xs []) (sym is) none))

abbrev paths : List Stop → List (List ℕ)
paths stops = map (λ (x : Stopped). x.path) (map shown_stop stops)

at_most : (P : Stopped → Type 0) (path : List ℕ) (visit : Option Visit)
    → ((v : Visit) → P (record { path = path; visit = v })) → All P (stop_at path visit)
at_most P path None h = All-nil P
at_most P path (Some v) h = All-cons P (record { path = path; visit = v }) [] (h v) (All-nil P)

each_below : (s : Shelved) (root path : List ℕ) (names : List Named) (n : ℕ) (cargo : Bool)
    → IsBelow s root path → s.Lists path names n → (xs : List Named) → All (Contains names) xs
    → All (λ (x : Stopped). IsBelow s root x.path) (flat_map (stop_in path cargo) xs)
each_below s root path names n cargo it lists [] h = All-nil (λ (x : Stopped). IsBelow s root x.path)
each_below s root path names n cargo it lists (x ∷ xs) h =
    let P = λ (x : Stopped). IsBelow s root x.path in
    All-append P (stop_in path cargo x) (flat_map (stop_in path cargo) xs)
    (at_most P (below path x.name) (visit_of cargo x.name x.kind)
    (λ v. inside path names n x it lists (All-head (Contains names) x xs h)))
    (each_below s root path names n cargo it lists xs (All-tail (Contains names) x xs h))

-- so are the stops of a folder that is
within_folder : (s : Shelved) (root path : List ℕ) (names : List Named) (n : ℕ) (stops : List Stop)
    → IsBelow s root path → s.Lists path names n → AreStopsIn path names stops
    → All (IsBelow s root) (paths stops)
within_folder s root path names n stops it lists are =
    All-map-IsPermutation (λ (x : Stopped). x.path) (IsBelow s root) (looked_at path names) (map shown_stop stops) are.are
    (All-map (IsBelow s root) (λ (x : Stopped). x.path) (looked_at path names)
    (each_below s root path names n (has_cargo names) it lists names (All-contains_itself names)))

first : (s : Shelved) (root : List ℕ) (stop : Stop) (stops : List Stop)
    → All (IsBelow s root) (paths (stop ∷ stops)) → IsBelow s root (string_bytes stop.path)
first s root stop stops h = All-head (IsBelow s root) (string_bytes stop.path) (paths stops) h

others : (s : Shelved) (root : List ℕ) (stop : Stop) (stops : List Stop)
    → All (IsBelow s root) (paths (stop ∷ stops)) → All (IsBelow s root) (paths stops)
others s root stop stops h = All-tail (IsBelow s root) (string_bytes stop.path) (paths stops) h

-- what is seen at a stop is there, and all else behind it is below too
with : (s : Shelved) (root : List ℕ) (stop : Stop) (x : Seen) (all : List Seen) → path_of x ≡ string_bytes stop.path
    → IsBelow s root (string_bytes stop.path) → AreAllBelow s root all → AreAllBelow s root (x ∷ all)
with s root stop x all is it h =
    All-cons (IsBelow s root) (path_of x) (map path_of all) (subst (λ p. IsBelow s root p) (sym is) it) h

seen_below : (s : Shelved) (root : List ℕ) {stops : List Stop} {all : List Seen}
    → AreSeen s stops all → All (IsBelow s root) (paths stops) → AreAllBelow s root all
seen_below s root none h = All-nil (IsBelow s root)
seen_below s root (file {stops} {after} stop is x) h =
    with s root stop (seen.File stop.path) after refl (first s root stop stops h)
    (seen_below s root x (others s root stop stops h))
seen_below s root (left_out {stops} {after} stop is x) h =
    with s root stop (seen.LeftOut stop.path) after refl (first s root stop stops h)
    (seen_below s root x (others s root stop stops h))
seen_below s root (left_behind {stops} {after} stop is x) h =
    with s root stop (seen.LeftBehind stop.path) after refl (first s root stop stops h)
    (seen_below s root x (others s root stop stops h))
seen_below s root (unread {stops} {after} stop e is fails x) h =
    with s root stop (seen.Unread stop.path e) after refl (first s root stop stops h)
    (seen_below s root x (others s root stop stops h))
seen_below s root (folder {stops} {within} {after} stop names n children is lists are x y) h =
    let it = first s root stop stops h in
    let in_it = seen_below s root x (within_folder s root (string_bytes stop.path) names n children it lists are) in
    let behind = seen_below s root y (others s root stop stops h) in
    with s root stop (seen.Folder stop.path n) (within ++ after) refl it
    (subst (λ ps. All (IsBelow s root) ps) (sym (map-append path_of within after))
    (All-append (IsBelow s root) (map path_of within) (map path_of after) in_it behind))

pub below_it : (s : Shelved) (path : List ℕ) (all : List Seen) → AreBelow s path all → AreAllBelow s path all
below_it s path all h =
    let alone = h.1.2 in
    let x = subst (λ stops. AreSeen s stops all) alone.alone h.2 in
    seen_below s path x
    (All-cons (IsBelow s path) (string_bytes alone.stop.path) []
    (subst (λ p. IsBelow s path p) (sym alone.path_is) itself) (All-nil (IsBelow s path)))
