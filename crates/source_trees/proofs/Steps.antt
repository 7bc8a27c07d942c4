-- A step of a walk: what is in a folder is seen before all else that is yet to come.
use Rattle.std.proofs.Common.{◌≡◌, refl, ap, sym, ◌∙◌, subst, ℕ, Bool, List, [], ◌∷◌, ◌++◌, reverse, String, string_bytes}
use Rattle.std.specs.declared.alloc.Global.{Global}
use Rattle.std.proofs.lemmas.List.{reverse-append, reverse-reverse, append_assoc}
use Rattle.std.specs.declared.io.Error.{Error}
use Rattle.shelves.specs.Shelf.{Named, Shelved, to_list}
use Rattle.source_trees.specs.declared.stops.Stop.{Stop}
use Rattle.source_trees.specs.declared.stops.Visit.TheVariants as visit
use Rattle.source_trees.specs.declared.walk.Seen.{Seen}
use Rattle.source_trees.specs.declared.walk.Seen.TheVariants as seen
use Rattle.source_trees.specs.Stops.{AreStopsIn}
use Rattle.source_trees.specs.Walks.{AreSeen, AreTaken, IsAlone, IsOpened, IsStep, IsTaken, root_visit, none, file, left_out, left_behind, folder, unread, a_file, a_left_out, a_left_behind, a_folder, an_unread, nothing_taken, then_taken}

-- what is seen of some stops, and then of the others
record Parted (s : Shelved) (stops others : List Stop) (all : List Seen) : Type 0 where
  within : List Seen
  after : List Seen
  seen_within : AreSeen s stops within
  seen_after : AreSeen s others after
  both : within ++ after ≡ all

parted : (s : Shelved) (stops others : List Stop) (all : List Seen)
    → AreSeen s (stops ++ others) all → Parted s stops others all
parted s [] others all x = record { within = []; after = all; seen_within = none; seen_after = x; both = refl }
parted s (stop ∷ stops) others all (file {stops = _} {after} _ is x) =
    let p = parted s stops others after x in
    record {
      within = seen.File stop.path ∷ p.within;
      after = p.after;
      seen_within = file stop is p.seen_within;
      seen_after = p.seen_after;
      both = ap (λ r. seen.File stop.path ∷ r) p.both;
    }
parted s (stop ∷ stops) others all (left_out {stops = _} {after} _ is x) =
    let p = parted s stops others after x in
    record {
      within = seen.LeftOut stop.path ∷ p.within;
      after = p.after;
      seen_within = left_out stop is p.seen_within;
      seen_after = p.seen_after;
      both = ap (λ r. seen.LeftOut stop.path ∷ r) p.both;
    }
parted s (stop ∷ stops) others all (left_behind {stops = _} {after} _ is x) =
    let p = parted s stops others after x in
    record {
      within = seen.LeftBehind stop.path ∷ p.within;
      after = p.after;
      seen_within = left_behind stop is p.seen_within;
      seen_after = p.seen_after;
      both = ap (λ r. seen.LeftBehind stop.path ∷ r) p.both;
    }
parted s (stop ∷ stops) others all (folder {stops = _} {within} {after} _ inside n children is lists are x y) =
    let p = parted s stops others after y in
    record {
      within = seen.Folder stop.path n ∷ (within ++ p.within);
      after = p.after;
      seen_within = folder stop inside n children is lists are x p.seen_within;
      seen_after = p.seen_after;
      both = ap (λ r. seen.Folder stop.path n ∷ r)
          (append_assoc within p.within p.after ∙ ap (λ r. within ++ r) p.both);
    }
parted s (stop ∷ stops) others all (unread {stops = _} {after} _ e is fails x) =
    let p = parted s stops others after x in
    record {
      within = seen.Unread stop.path e ∷ p.within;
      after = p.after;
      seen_within = unread stop e is fails p.seen_within;
      seen_after = p.seen_after;
      both = ap (λ r. seen.Unread stop.path e ∷ r) p.both;
    }

-- what is seen behind this, is seen behind it from the beginning
pub seen_behind : (s : Shelved) (before after : List Stop) (x : Seen) (rest : List Seen)
    → IsTaken s before x after → AreSeen s after rest → AreSeen s before (x ∷ rest)
seen_behind s _ _ _ rest (a_file stop is) h = file stop is h
seen_behind s _ _ _ rest (a_left_out stop is) h = left_out stop is h
seen_behind s _ _ _ rest (a_left_behind stop is) h = left_behind stop is h
seen_behind s _ _ _ rest (a_folder {stops} stop inside n children is lists are) h =
    let p = parted s children stops rest h in
    subst (λ (all : List Seen). AreSeen s (stop ∷ stops) (seen.Folder stop.path n ∷ all)) p.both
    (folder stop inside n children is lists are p.seen_within p.seen_after)
seen_behind s _ _ _ rest (an_unread stop e is fails) h = unread stop e is fails h

-- the same of all that a walk came to
pub all_seen_behind : (s : Shelved) {begun now : List Stop} {all : List Seen} (rest : List Seen)
    → AreTaken s begun all now → AreSeen s now rest → AreSeen s begun (all ++ rest)
all_seen_behind s rest nothing_taken h = h
all_seen_behind s {begun} rest (then_taken {all} {before} {after} x far is) h =
    subst (λ (xs : List Seen). AreSeen s begun xs) (sym (append_assoc all (x ∷ []) rest))
    (all_seen_behind s (x ∷ rest) far (seen_behind s before after x rest is h))

-- a folder that lists these, whose stops come before all others now, was opened
pub opened : (s : Shelved) (before after children : List Stop) (path : String Global) (inside : List Named) (n : ℕ)
    → s.Lists (string_bytes path) inside n → AreStopsIn (string_bytes path) inside children
    → after ≡ children ++ before → IsOpened s before path after (seen.Folder path n)
opened s before after children path inside n lists are is stop at visits =
    let lists_it = subst (λ q. s.Lists (string_bytes q) inside n) (sym at) lists in
    let are_its = subst (λ q. AreStopsIn (string_bytes q) inside children) (sym at) are in
    subst (λ q. IsTaken s (stop ∷ before) (seen.Folder q n) after) at
    (subst (λ stops. IsTaken s (stop ∷ before) (seen.Folder stop.path n) stops) (sym is)
    (a_folder stop inside n children visits lists_it are_its))

-- the stops that were put at the end of the stack, last one first, come before all others
pub on_top : (old children : List Stop)
    → reverse (old ++ reverse children) ≡ children ++ reverse old
on_top old children =
    reverse-append old (reverse children) ∙ ap (λ r. r ++ reverse old) (reverse-reverse children)

-- a folder that isn't read has nothing behind it
pub not_opened : (s : Shelved) (before after : List Stop) (path : String Global) (e : Error)
    → s.Fails to_list (string_bytes path) e → after ≡ before → IsOpened s before path after (seen.Unread path e)
not_opened s before after path e fails is stop at visits =
    let fails_it = subst (λ q. s.Fails to_list (string_bytes q) e) (sym at) fails in
    subst (λ q. IsTaken s (stop ∷ before) (seen.Unread q e) after) at
    (subst (λ stops. IsTaken s (stop ∷ before) (seen.Unread stop.path e) stops) (sym is)
    (an_unread stop e visits fails_it))

-- what was the last of the stack was the first of what was yet to come
pub taken : (stops : List Stop) (stop : Stop) → reverse (stops ++ stop ∷ []) ≡ stop ∷ reverse stops
taken stops stop = reverse-append stops (stop ∷ [])

-- what is seen at a stop, by what is done there
pub at_file : (s : Shelved) (stops : List Stop) (stop : Stop)
    → stop.visit ≡ visit.File → IsStep s stops stop stops (seen.File stop.path)
at_file s stops stop is = a_file stop is

pub at_left_out : (s : Shelved) (stops : List Stop) (stop : Stop)
    → stop.visit ≡ visit.LeftOut → IsStep s stops stop stops (seen.LeftOut stop.path)
at_left_out s stops stop is = a_left_out stop is

pub at_left_behind : (s : Shelved) (stops : List Stop) (stop : Stop)
    → stop.visit ≡ visit.LeftBehind → IsStep s stops stop stops (seen.LeftBehind stop.path)
at_left_behind s stops stop is = a_left_behind stop is

-- one stop alone is the first and the last
pub alone : (stops : List Stop) (stop : Stop) (path : List ℕ) (is_folder : Bool)
    → stops ≡ stop ∷ [] → string_bytes stop.path ≡ path → stop.visit ≡ root_visit is_folder
    → IsAlone path is_folder (reverse stops)
alone stops stop path is_folder is at visits = record {
  stop = stop;
  alone = ap (λ xs. reverse xs) is;
  path_is = at;
  visit_is = visits;
}
