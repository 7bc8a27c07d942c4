use Rattle.std.proofs.Common.{arith, Bool, ◌<◌, ◌++◌, ◌∷◌, [], length, map, take, get_or, sym, ap, ◌∙◌}
use Rattle.std.proofs.lemmas.List.{map-append, take_more}
use Rattle.gate_program.specs.Known.{is_known}
use Rattle.gate_program.proofs.known.known_among.Goals as goal

pub loop-refusal-preserved : goal.loop-refusal-preserved
loop-refusal-preserved c =
    let all = c.args.now.now in
    let known = is_known c.args.before.now in
    let i = c.loop-refusal.refusal-index in
    let lt : i < length all = omega arith in
    let more = ap (map known) (take_more all i _ lt) ∙ map-append known (take i all) (get_or all i _ ∷ []) in
    c.in_ok-push.ensures.items ∙ ap (λ ks. ks ++ c.is_in.result ∷ []) c.loop-refusal.invariant
    ∙ ap (λ (k : Bool). map known (take i all) ++ k ∷ []) (c.is_in.ensures c.args.before.now c.in_ok-set.ensures) ∙ sym (more)
