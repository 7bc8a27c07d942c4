-- What `fix` does, one thing behind the other.
use Rattle.std.proofs.Common.{◌≡◌, ◌∙◌, refl, sym, ap, subst, inl, inr, ℕ, ◌||◌, ◌&&◌, Bool, true, false, List, [], ◌∷◌, ◌++◌, String, append_assoc, append-nil, arith, map, string_bytes}
use Rattle.std.specs.Prelude.{Result, Ok, Err, IfErr, IfOk, OnOk, IsErrAnd, flat_map, max, if◌then◌else◌}
use Rattle.std.specs.declared.alloc.Global.{Global}
use Rattle.std.specs.declared.io.Error.{Error}
use Rattle.std.specs.Io.KnownBytes.{Appends}
use Rattle.std.proofs.KnownBytes.{Appends-nil, Appends-trans}
use Rattle.std.proofs.lemmas.Grind.{flat_map-append}
use Rattle.std.proofs.lemmas.List.Folds.{list_any-append}
use Rattle.line_engine.specs.Device.{Told}
use Rattle.check_files.specs.Told.{Account, Hears, Tells}
use Rattle.check_files.proofs.Doing.{hears_nil, hears_trans}
use Rattle.shelves.specs.declared.shelf.Stamp.{Stamp}
use Rattle.fix_program.specs.declared.ends.FileEnd.{FileEnd}
use Rattle.fix_program.specs.declared.file.FileReplacement.{FileReplacement}
use Rattle.fix_program.specs.declared.run.PathEnd.{PathEnd}
use Rattle.fix_program.specs.declared.trouble.FixTrouble.{FixTrouble}
use Rattle.spdx_commands.specs.Mend.{AreEndsDone, ArePathsDone, Did, Done, IsBrokenOff, IsEndDone, IsLeftOut, IsPathDone, IsPlaced, Setting, Stand, attempt_of, behind, broken, hindrance, is_end, left_behind, no_end, no_path, nothing, stand, telling, then_end, then_path, told_of, unwritten, worst, writing}
use Rattle.spdx_commands.specs.Nodes.{has_node}
use Rattle.spdx_commands.specs.Replaced.{Attempt, attempt, is_placed, is_replaced, noted, same_node}
use Rattle.spdx_commands.specs.Steps.{AreReplaced, Comes, ComesOfPath, IsLeftOutTold, IsUnwritten, IsWorst, told}
use Rattle.spdx_commands.specs.declared.deeds.SoFar.{SoFar}
use Rattle.spdx_commands.specs.declared.nodes.Nodes.{Nodes}
use Rattle.spdx_commands.specs.declared.mending.replacing.Loss.{Loss}
use Rattle.spdx_commands.specs.declared.mending.replacing.Loss.TheVariants as loss
use Rattle.spdx_commands.specs.declared.mending.replacing.Obstacle.{Obstacle}
use Rattle.spdx_commands.specs.declared.mending.replacing.Obstacle.TheVariants as obstacle
use Rattle.spdx_troubles.specs.Causes.{IsFixTrouble, is_of_memory}
use Rattle.spdx_troubles.specs.Status.{is_passed_over, status_of}
use Rattle.spdx_troubles.specs.declared.trouble.Trouble.{Trouble}
use Rattle.spdx_troubles.specs.declared.trouble.Trouble.TheVariants as trouble

-- ---- the greatest status

pub worst_append : (xs ys : List Trouble) → worst (xs ++ ys) ≡ max (worst xs) (worst ys)
worst_append [] ys = omega arith
worst_append (x ∷ xs) ys = let rest = worst_append xs ys in omega (arith, rest)

pub worst_left : (left : List (String Global)) → worst (map trouble.LeftBehind left) ≡ 0
worst_left [] = refl
worst_left (n ∷ ns) = let rest = worst_left ns in omega (arith, rest)

-- ---- files that are known

unchanged : (nodes : Nodes) (before : List Attempt) → AreReplaced nodes before → AreReplaced nodes (before ++ [])
unchanged nodes before knows = subst (AreReplaced nodes) (sym (append-nil before)) knows

swap : (a b : Bool) → (a || b) ≡ (b || ((true && a) || false))
swap true true = refl
swap true false = refl
swap false true = refl
swap false false = refl

or_none : (b : Bool) → b ≡ (b || (false || false))
or_none true = refl
or_none false = refl

abbrev is_of : Stamp → Attempt → Bool
is_of x a = is_placed a.answer && same_node a.stamp x

one_placed : (old new : Nodes) (links : Bool) (r : FileReplacement) (loss : Loss) (before : List Attempt)
    → ((other : Stamp) → has_node new other ≡ (same_node r.stamp other || has_node old other))
    → AreReplaced old before → AreReplaced new (before ++ attempt_of links r (Ok loss) ∷ [])
one_placed old new links r loss before adds knows = λ x.
    adds x
    ∙ ap (λ (b : Bool). same_node r.stamp x || b) (knows x)
    ∙ swap (same_node r.stamp x) (is_replaced before x)
    ∙ sym (list_any-append (is_of x) before (attempt_of links r (Ok loss) ∷ []))

none_placed : (nodes : Nodes) (links : Bool) (r : FileReplacement) (o : Obstacle) (before : List Attempt)
    → AreReplaced nodes before → AreReplaced nodes (before ++ attempt_of links r (Err o) ∷ [])
none_placed nodes links r o before knows = λ x.
    knows x
    ∙ or_none (is_replaced before x)
    ∙ sym (list_any-append (is_of x) before (attempt_of links r (Err o) ∷ []))

-- ---- one thing

-- nothing is done
pub idle : (x : Stand) (nodes : Nodes) (Is : List Attempt → Done → Type 0) → ((before : List Attempt) → Is before nothing) → Did x x (Comes nodes nodes 0 Is)
idle x nodes Is h = record {
  done = nothing;
  writes = Appends-nil x.output.bytes;
  tells = hears_nil x.heard;
  tries = hears_nil x.tried;
  is = λ before knows. record { is = h before; status_is = refl; replaced = unchanged nodes before knows };
}

-- a text is written
pub written : (out out' : Told) (h : Account Trouble) (k : Account Attempt) (nodes : Nodes) (text : List ℕ) (Is : List Attempt → Done → Type 0)
    → Appends out.bytes out'.bytes text → ((before : List Attempt) → Is before (writing text))
    → Did (stand out h k) (stand out' h k) (Comes nodes nodes 0 Is)
written out out' h k nodes text Is appends is = record {
  done = writing text;
  writes = appends;
  tells = hears_nil h;
  tries = hears_nil k;
  is = λ before knows. record { is = is before; status_is = refl; replaced = unchanged nodes before knows };
}

one_worst : (u : Trouble) (status : ℕ) → status ≡ status_of u → status ≡ worst (u ∷ [])
one_worst u status e = omega (arith, e)

left_out_by : (out : Told) (h l : Account Trouble) (k : Account Attempt) (nodes : Nodes) (t : FixTrouble) (status : ℕ) (heard : List Trouble)
    → Hears h l heard → IsLeftOutTold t status heard → Did (stand out h k) (stand out l k) (Comes nodes nodes status (λ _. IsLeftOut t))
left_out_by out h l k nodes t status heard tells (told u is status_is) = record {
  done = telling (u ∷ []);
  writes = Appends-nil out.bytes;
  tells = tells;
  tries = hears_nil k;
  is = λ before knows. record {
    is = record { trouble = u; is = is; done_is = refl };
    status_is = one_worst u status status_is;
    replaced = unchanged nodes before knows;
  };
}

-- it is told why a file is left out
pub left_out_told : (out : Told) (h l : Account Trouble) (k : Account Attempt) (nodes : Nodes) (t : FixTrouble) (status : ℕ)
    → Tells h l (IsLeftOutTold t status) → Did (stand out h k) (stand out l k) (Comes nodes nodes status (λ _. IsLeftOut t))
left_out_told out h l k nodes t status p = left_out_by out h l k nodes t status p.told p.tells p.is

loss_zero : (path : String Global) (x : Loss) → 0 ≡ worst (told_of path (Ok x))
loss_zero path loss.Nothing = refl
loss_zero path loss.SetId = refl

-- its bytes were tried
abbrev pub HearsTried : Account Attempt → Account Attempt → Bool → FileReplacement → Result Loss Obstacle → Type 0
HearsTried k m links r answer = Hears k m (noted (attempt_of links r answer))

pub tried : (k m : Account Attempt) (links : Bool) (r : FileReplacement) (answer : Result Loss Obstacle) (path bytes : List ℕ) → path ≡ string_bytes r.path → bytes ≡ r.bytes.items
    → Hears k m (noted (attempt path r.stamp links bytes answer)) → HearsTried k m links r answer
tried k m links r answer path bytes is same h =
    subst (λ (b : List ℕ). Hears k m (noted (attempt (string_bytes r.path) r.stamp links b answer))) same
    (subst (λ (p : List ℕ). Hears k m (noted (attempt p r.stamp links bytes answer))) is h)

-- the bytes take the file's place
pub placed : (out : Told) (h l : Account Trouble) (k m : Account Attempt) (old new : Nodes) (links : Bool) (r : FileReplacement) (answer : Result Loss Obstacle) (x : Loss)
    → answer ≡ Ok x → HearsTried k m links r answer → Hears h l (told_of r.path (Ok x))
    → ((other : Stamp) → has_node new other ≡ (same_node r.stamp other || has_node old other))
    → Did (stand out h k) (stand out l m) (Comes old new 0 (λ _. IsPlaced links r))
placed out h l k m old new links r answer x is tries tells adds = record {
  done = record { text = []; told = told_of r.path (Ok x); tried = attempt_of links r (Ok x) ∷ [] };
  writes = Appends-nil out.bytes;
  tells = tells;
  tries = subst (HearsTried k m links r) is tries;
  is = λ before knows. record {
    is = record { answer = Ok x; goes_on = refl; text_is = refl; told_is = refl; tried_is = refl };
    status_is = loss_zero r.path x;
    replaced = one_placed old new links r x before adds knows;
  };
}

noted_on : (links : Bool) (r : FileReplacement) (o : Obstacle) → is_end (Err o) ≡ false → noted (attempt_of links r (Err o)) ≡ attempt_of links r (Err o) ∷ []
noted_on links r obstacle.Changed e = refl
noted_on links r obstacle.Linked e = refl
noted_on links r (obstacle.Owner x) e = refl
noted_on links r (obstacle.Failed x) e = absurd (let bad : true ≡ false = e in cc)

-- they don't, and it is told why
pub hindered : (h l : Account Trouble) (k m : Account Attempt) (nodes : Nodes) (links : Bool) (r : FileReplacement) (answer : Result Loss Obstacle) (o : Obstacle) (result : Result ℕ Trouble)
    → answer ≡ Err o → HearsTried k m links r answer
    → IfOk result (λ status. status ≡ status_of (hindrance r.path o)) → OnOk result (Hears h l (hindrance r.path o ∷ [])) → OnOk result (is_end (Err o) ≡ false)
    → IfOk result (λ status. (out : Told) → Did (stand out h k) (stand out l m) (Comes nodes nodes status (λ _. IsPlaced links r)))
hindered h l k m nodes links r answer o (Err t) is tries status_is tells goes_on = tt
hindered h l k m nodes links r answer o (Ok status) is tries status_is tells goes_on = λ out. record {
  done = record { text = []; told = hindrance r.path o ∷ []; tried = attempt_of links r (Err o) ∷ [] };
  writes = Appends-nil out.bytes;
  tells = tells;
  tries = subst (Hears k m) (noted_on links r o goes_on) (subst (HearsTried k m links r) is tries);
  is = λ before knows. record {
    is = record { answer = Err o; goes_on = goes_on; text_is = refl; told_is = refl; tried_is = refl };
    status_is = one_worst (hindrance r.path o) status status_is;
    replaced = none_placed nodes links r o before knows;
  };
}

-- ---- the same, of which more is known

module _ (old new : Nodes) (Was Is : List Attempt → Done → Type 0) (so : (before : List Attempt) → AreReplaced old before → (d : Done) → Was before d → Is before d) where
  pub known : (a b : Stand) (status : ℕ) → Did a b (Comes old new status Was) → Did a b (Comes old new status Is)
  known a b status p = record {
    done = p.done;
    writes = p.writes;
    tells = p.tells;
    tries = p.tries;
    is = λ before knows.
        let c = p.is before knows in
        record { is = so before knows p.done c.is; status_is = c.status_is; replaced = c.replaced };
  }

  -- of the result of a call, whatever the output is
  pub result_known : (h l : Account Trouble) (k m : Account Attempt) (r : Result ℕ Trouble)
      → IfOk r (λ status. (out : Told) → Did (stand out h k) (stand out l m) (Comes old new status Was))
      → IfOk r (λ status. (out : Told) → Did (stand out h k) (stand out l m) (Comes old new status Is))
  result_known h l k m (Ok status) p = λ out. known (stand out h k) (stand out l m) status (p out)
  result_known h l k m (Err t) p = tt

  -- at this output
  pub result_at : (out : Told) (h l : Account Trouble) (k m : Account Attempt) (r : Result ℕ Trouble)
      → IfOk r (λ status. (out : Told) → Did (stand out h k) (stand out l m) (Comes old new status Was))
      → IfOk r (λ status. Did (stand out h k) (stand out l m) (Comes old new status Is))
  result_at out h l k m (Ok status) p = known (stand out h k) (stand out l m) status (p out)
  result_at out h l k m (Err t) p = tt

  pub result_of : (a b : Stand) (r : Result ℕ Trouble) → IfOk r (λ status. Did a b (Comes old new status Was)) → IfOk r (λ status. Did a b (Comes old new status Is))
  result_of a b (Ok status) p = known a b status p
  result_of a b (Err t) p = tt

-- what is told of a file that is left out
pub told_left_out : {E : Type 0} (h l : Account Trouble) (t : FixTrouble) (u : Trouble) (r : Result ℕ E) → IsFixTrouble t u → IfOk r (λ status. status ≡ status_of u)
    → OnOk r (Hears h l (u ∷ [])) → IfOk r (λ status. Tells h l (IsLeftOutTold t status))
told_left_out h l t u (Ok status) is status_is tells = record { told = u ∷ []; tells = tells; is = told u is status_is }
told_left_out h l t u (Err e) is status_is tells = tt

pub on_ok : {A E : Type 0} (r : Result A E) (P : Type 0) → P → OnOk r P
on_ok (Ok x) P h = h
on_ok (Err e) P h = tt

-- ---- why it breaks off

if_memory : (path : String Global) (e : Error) (m : Bool) (t : Trouble) → is_of_memory e ≡ m → t ≡ (if m then trouble.Memory else trouble.Unwritable path e) → IsUnwritten path (obstacle.Failed e) t
if_memory path e true t of is = inl is
if_memory path e false t of is = inr (of, is)

-- nothing is done after it, or it is passed over
pub stopped_by : (path : String Global) (o : Obstacle) (t : Trouble) → t ≡ hindrance path o → is_passed_over t ≡ false → IsUnwritten path o t
stopped_by path obstacle.Changed t is off = absurd (let bad : true ≡ false = ap is_passed_over (sym is) ∙ off in cc)
stopped_by path obstacle.Linked t is off = absurd (let bad : true ≡ false = ap is_passed_over (sym is) ∙ off in cc)
stopped_by path (obstacle.Owner e) t is off = absurd (let bad : true ≡ false = ap is_passed_over (sym is) ∙ off in cc)
stopped_by path (obstacle.Failed e) t is off = if_memory path e (is_of_memory e) t refl is

never_passed : (path : String Global) (e : Error) (m : Bool) → is_passed_over (if m then trouble.Memory else trouble.Unwritable path e) ≡ true → ⊥
never_passed path e true h = absurd (let bad : false ≡ true = h in cc)
never_passed path e false h = absurd (let bad : false ≡ true = h in cc)

pub passed_by : (path : String Global) (o : Obstacle) (t : Trouble) → t ≡ hindrance path o → is_passed_over t ≡ true → is_end (Err o) ≡ false
passed_by path obstacle.Changed t is over = refl
passed_by path obstacle.Linked t is over = refl
passed_by path (obstacle.Owner e) t is over = refl
passed_by path (obstacle.Failed e) t is over = absurd (never_passed path e (is_of_memory e) (sym (ap is_passed_over is) ∙ over))

pub memory_off : (k m : Account Attempt) (r : Result ℕ Trouble) → IsErrAnd r (λ t. t ≡ trouble.Memory) → IfErr r (λ t. (out : Told) → IsBrokenOff out k m t)
memory_off k m (Ok x) h = tt
memory_off k m (Err t) h = λ out. subst (IsBrokenOff out k m) (sym h) (broken trouble.Memory tt)

pub memory_at : (out : Told) (k m : Account Attempt) (r : Result ℕ Trouble) → IsErrAnd r (λ t. t ≡ trouble.Memory) → IfErr r (IsBrokenOff out k m)
memory_at out k m (Ok x) h = tt
memory_at out k m (Err t) h = subst (IsBrokenOff out k m) (sym h) (broken trouble.Memory tt)

pub output_at : (out : Told) (k m : Account Attempt) → out.has_failed ≡ true → (r : Result ℕ Trouble) → IsErrAnd r (λ t. t ≡ trouble.Output) → IfErr r (IsBrokenOff out k m)
output_at out k m failed (Ok x) h = tt
output_at out k m failed (Err t) h = subst (IsBrokenOff out k m) (sym h) (broken trouble.Output failed)

pub off_at : (out : Told) (k m : Account Attempt) (r : Result ℕ Trouble) → IfErr r (λ t. (out : Told) → IsBrokenOff out k m t) → IfErr r (IsBrokenOff out k m)
off_at out k m (Ok x) h = tt
off_at out k m (Err t) h = h out

noted_end : (k m : Account Attempt) (links : Bool) (r : FileReplacement) (o : Obstacle) (t : Trouble)
    → HearsTried k m links r (Err o) → IsUnwritten r.path o t → (out : Told) → IsBrokenOff out k m t
noted_end k m links r obstacle.Changed t tries is out = subst (IsBrokenOff out k m) (sym is) (broken trouble.Memory tt)
noted_end k m links r obstacle.Linked t tries is out = subst (IsBrokenOff out k m) (sym is) (broken trouble.Memory tt)
noted_end k m links r (obstacle.Owner e) t tries is out = subst (IsBrokenOff out k m) (sym is) (broken trouble.Memory tt)
noted_end k m links r (obstacle.Failed e) t tries (inl is) out = subst (IsBrokenOff out k m) (sym is) (broken trouble.Memory tt)
noted_end k m links r (obstacle.Failed e) t tries (inr is) out =
    let a = attempt_of links r (Err (obstacle.Failed e)) in
    subst (IsBrokenOff out k m) (sym is.1)
    (unwritten [] r.path r.stamp links r.bytes.items e (subst (λ (b : Bool). Hears k m (if b then [] else a ∷ [])) is.0 tries))

-- the file can't be written
pub unwritten_off : (k m : Account Attempt) (links : Bool) (r : FileReplacement) (answer : Result Loss Obstacle) (o : Obstacle) (result : Result ℕ Trouble)
    → answer ≡ Err o → HearsTried k m links r answer → IfErr result (IsUnwritten r.path o)
    → IfErr result (λ t. (out : Told) → IsBrokenOff out k m t)
unwritten_off k m links r answer o (Ok x) is tries off = tt
unwritten_off k m links r answer o (Err t) is tries off = noted_end k m links r o t (subst (HearsTried k m links r) is tries) off

-- behind others that were tried
pub off_behind : (out : Told) (k l m : Account Attempt) (tried : List Attempt) (t : Trouble) → Hears k l tried → IsBrokenOff out l m t → IsBrokenOff out k m t
off_behind out k l m tried t first (broken u is) = broken u is
off_behind out k l m tried t first (unwritten before path stamp links bytes e last) =
    let a = attempt (string_bytes path) stamp links bytes (Err (obstacle.Failed e)) in
    unwritten (tried ++ before) path stamp links bytes e (subst (Hears k m) (sym (append_assoc tried before (a ∷ []))) (hears_trans k l m tried (before ++ a ∷ []) first last))

pub same_off : (out : Told) (k m : Account Attempt) (part : Trouble) → IsBrokenOff out k m part → (r : Result ℕ Trouble) → IsErrAnd r (λ t. t ≡ part) → IfErr r (IsBrokenOff out k m)
same_off out k m part is (Ok x) h = tt
same_off out k m part is (Err t) h = subst (IsBrokenOff out k m) (sym h) is

pub part_off : (out : Told) (k l m : Account Attempt) (tried : List Attempt) (part : Trouble) → Hears k l tried → IsBrokenOff out l m part
    → (r : Result ℕ Trouble) → IsErrAnd r (λ t. t ≡ part) → IfErr r (IsBrokenOff out k m)
part_off out k l m tried part first is (Ok x) h = tt
part_off out k l m tried part first is (Err t) h = subst (IsBrokenOff out k m) (sym h) (off_behind out k l m tried part first is)

-- ---- one thing behind the other

pub after : (a b c : Stand) (First Then Is : Done → Type 0) → Did a b First → Did b c Then → ((x y : Done) → First x → Then y → Is (behind x y)) → Did a c Is
after a b c First Then Is p q so = record {
  done = behind p.done q.done;
  writes = Appends-trans a.output.bytes b.output.bytes c.output.bytes p.done.text q.done.text p.writes q.writes;
  tells = hears_trans a.heard b.heard c.heard p.done.told q.done.told p.tells q.tells;
  tries = hears_trans a.tried b.tried c.tried p.done.tried q.done.tried p.tries q.tries;
  is = so p.done q.done p.is q.is;
}

both_worst : (xs ys : List Trouble) (one other whole : ℕ) → one ≡ worst xs → other ≡ worst ys → whole ≡ max other one → whole ≡ worst (xs ++ ys)
both_worst xs ys one other whole e f g = let all = worst_append xs ys in omega (arith, e, f, g, all)

pub left_more : (old now new : List (String Global)) (ends : List FileEnd) (e : FileEnd) → now ≡ old ++ flat_map left_behind ends → new ≡ now ++ left_behind e
    → new ≡ old ++ flat_map left_behind (ends ++ e ∷ [])
left_more old now new ends e is more =
    more
    ∙ ap (λ (xs : List (String Global)). xs ++ left_behind e) is
    ∙ append_assoc old (flat_map left_behind ends) (left_behind e)
    ∙ ap (λ (xs : List (String Global)). old ++ (flat_map left_behind ends ++ xs)) (sym (append-nil (left_behind e)))
    ∙ ap (λ (xs : List (String Global)). old ++ xs) (sym (flat_map-append left_behind ends (e ∷ [])))

module _ (w : Setting) where
  pub none_done : (x : Stand) (nodes : Nodes) → Did x x (Comes nodes nodes 0 (λ before. AreEndsDone w before []))
  none_done x nodes = idle x nodes (λ before. AreEndsDone w before []) (λ before. no_end)

  pub end_more : (a b d : Stand) (n o p : Nodes) (ends : List FileEnd) (e : FileEnd) (old status new : ℕ)
      → Did a b (Comes n o old (λ before. AreEndsDone w before ends)) → Did b d (Comes o p status (λ before. IsEndDone w before e)) → new ≡ max status old
      → Did a d (Comes n p new (λ before. AreEndsDone w before (ends ++ e ∷ [])))
  end_more a b d n o p ends e old status new one other greatest =
      after a b d (Comes n o old (λ before. AreEndsDone w before ends)) (Comes o p status (λ before. IsEndDone w before e)) (Comes n p new (λ before. AreEndsDone w before (ends ++ e ∷ []))) one other
      (λ x y f g before knows.
      let u = f before knows in
      let v = g (before ++ x.tried) u.replaced in
      record {
        is = then_end ends e x y u.is v.is;
        status_is = both_worst x.told y.told old status new u.status_is v.status_is greatest;
        replaced = subst (AreReplaced p) (append_assoc before x.tried y.tried) v.replaced;
      })

  -- what was left behind is told last
  pub path_done : (a b : Stand) (l : Account Trouble) (x : SoFar) (o : Nodes) (p : PathEnd) (status : ℕ) (left : List (String Global))
      → Did a b (Comes x.replaced o status (λ before. AreEndsDone w before p.ends.items)) → Hears b.heard l (map trouble.LeftBehind left)
      → left ≡ x.left.items ++ flat_map left_behind p.ends.items
      → Did a (stand b.output l b.tried) (λ d. x.left.items ≡ [] → Comes x.replaced o status (λ before. IsPathDone w before p) d)
  path_done a b l x o p status left q tells is = record {
    done = behind q.done (telling (map trouble.LeftBehind left));
    writes = Appends-trans a.output.bytes b.output.bytes b.output.bytes q.done.text [] q.writes (Appends-nil b.output.bytes);
    tells = hears_trans a.heard b.heard l q.done.told (map trouble.LeftBehind left) q.tells tells;
    tries = hears_trans a.tried b.tried b.tried q.done.tried [] q.tries (hears_nil b.tried);
    is = λ empty before knows.
        let u = q.is before knows in
        let all = is ∙ ap (λ (ns : List (String Global)). ns ++ flat_map left_behind p.ends.items) empty in
        record {
          is = record { files = q.done; are_done = u.is; done_is = ap (λ (ns : List (String Global)). behind q.done (telling (map trouble.LeftBehind ns))) all };
          status_is = both_worst q.done.told (map trouble.LeftBehind left) status 0 status u.status_is (sym (worst_left left)) (omega arith);
          replaced = subst (λ (ts : List Attempt). AreReplaced o (before ++ ts)) (sym (append-nil q.done.tried)) u.replaced;
        };
  }

  -- it was done of these paths, and these files are known
  pub record AreSoFar (nodes : Nodes) (status : ℕ) (paths : List PathEnd) (done : Done) : Type 0 where
    pub is : ArePathsDone w paths done
    pub status_is : status ≡ worst done.told
    pub replaced : AreReplaced nodes done.tried

  pub paths_begun : (x : Stand) (nodes : Nodes) → AreReplaced nodes [] → Did x x (AreSoFar nodes 0 [])
  paths_begun x nodes knows = record {
    done = nothing;
    writes = Appends-nil x.output.bytes;
    tells = hears_nil x.heard;
    tries = hears_nil x.tried;
    is = record { is = no_path; status_is = refl; replaced = knows };
  }

  pub path_more : (a b d : Stand) (x y : SoFar) (paths : List PathEnd) (p : PathEnd) (old status new : ℕ) → Did a b (AreSoFar x.replaced old paths) → x.left.items ≡ []
      → Did b d (ComesOfPath x y status (λ before. IsPathDone w before p)) → new ≡ max status old → Did a d (AreSoFar y.replaced new (paths ++ p ∷ []))
  path_more a b d x y paths p old status new one empty other greatest =
      after a b d (AreSoFar x.replaced old paths) (ComesOfPath x y status (λ before. IsPathDone w before p)) (AreSoFar y.replaced new (paths ++ p ∷ [])) one other
      (λ t u f g.
      let v = g empty t.tried f.replaced in
      record {
        is = then_path paths p t u f.is v.is;
        status_is = both_worst t.told u.told old status new f.status_is v.status_is greatest;
        replaced = v.replaced;
      })

  pub paths_done : (a b : Stand) (nodes : Nodes) (status : ℕ) (paths : List PathEnd) → Did a b (AreSoFar nodes status paths) → Did a b (IsWorst status (ArePathsDone w paths))
  paths_done a b nodes status paths p =
      record { done = p.done; writes = p.writes; tells = p.tells; tries = p.tries; is = record { is = p.is.is; status_is = p.is.status_is } }
