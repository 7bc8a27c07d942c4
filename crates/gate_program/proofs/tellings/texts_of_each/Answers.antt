use Rattle.std.proofs.Common.{List, [], ◌∷◌, ◌++◌, ◌∙◌, ap, map, sym, take}
use Rattle.std.proofs.lemmas.List.{map-append, take_more}
use Rattle.std.proofs.lemmas.List.Elements.{All-push, All-same}
use Rattle.spdx_gate.specs.declared.judgement.Judgement.{Judgement}
use Rattle.gate_program.specs.Tellings.{IsShownIn, judgement_in}
use Rattle.gate_program.proofs.tellings.texts_of_each.Goals as goal

pub loop-judgement-preserved : goal.loop-judgement-preserved
loop-judgement-preserved c =
    let all = c.loop-judgement.all.items in
    let P = IsShownIn c.args.catalogue.now c.args.policy.now in
    record {
      each = All-same P c.push.new.self.items _ c.in_ok-push.ensures.items (All-push P all _ c.loop-judgement.invariant.each c.in_ok-of.ensures);
      of =
          ap (map judgement_in) c.in_ok-push.ensures.items ∙ map-append judgement_in all _
          ∙ ap (λ (js : List Judgement). js ++ c.judgement-item.result ∷ []) c.loop-judgement.invariant.of
          ∙ ap (λ (j : Judgement). take c.loop-judgement.judgement-index c.args.judgements.now ++ j ∷ []) c.judgement-item.is
          ∙ sym (take_more c.args.judgements.now c.loop-judgement.judgement-index c.judgement-item.result c.loop-judgement-test.true);
    }
