-- The line of a finding reads back, and has no newline.
use Rattle.std.proofs.Common.{◌≡◌, ◌≤◌, [], ◌∷◌, false, Some, codes, arith}
use Rattle.json.specs.Token.{end_object, key, string}
use Rattle.json.specs.Lex.{tokens}
use Rattle.json.specs.Json.{max_depth, document}
use Rattle.json.specs.Tree.{json_tokens, members_tokens, depth, members_depth}
use Rattle.finding_forms.specs.Finding.{Aid, nothing, write, names, note, Told, from_of, to_of}
use Rattle.finding_forms.specs.Json.{aid_members, json_of, json_text, HasNoNewline}
use Rattle.finding_forms.proofs.JsonLines.{items_depth-texts_of, document-from, AreOneLine, one_line-print_from, one_line-decimal, texts_one_line}

members_depth-aid : (aid : Aid) → members_depth (aid_members aid) ≤ 1
members_depth-aid nothing = omega arith
members_depth-aid (write mended) = omega arith
members_depth-aid (names [] rule) = omega arith
members_depth-aid (names (first ∷ others) rule) = omega (arith, items_depth-texts_of others)
members_depth-aid (note words) = omega arith

depth-json_of : (t : Told) → depth (json_of t) ≤ max_depth
depth-json_of t = omega (arith, members_depth-aid t.aid)

pub reads_back_from : (t : Told) → tokens (json_text t) ≡ json_tokens (json_of t) → document (json_text t) ≡ Some (json_of t)
reads_back_from t e = document-from (json_text t) (json_of t) e (depth-json_of t)

aid_one_line : (aid : Aid) → AreOneLine (members_tokens (aid_members aid))
aid_one_line nothing = tt
aid_one_line (write mended) = tt
aid_one_line (names [] rule) = tt
aid_one_line (names (first ∷ others) rule) = texts_one_line others (key (codes "rule") ∷ string rule ∷ end_object ∷ []) tt
aid_one_line (note words) = tt

pub one_line-json_text : (t : Told) → HasNoNewline (json_text t)
one_line-json_text t =
    one_line-print_from false (json_tokens (json_of t))
    (one_line-decimal t.seen.line, (one_line-decimal t.seen.column, (one_line-decimal (from_of t), (one_line-decimal (to_of t), aid_one_line t.aid))))
