-- The tests of a case statement's items.
use Rattle.std.proofs.Common.{arith, ◌≡◌, ℕ, zero, suc, ◌+◌, ◌<◌, ◌≤◌, max, Bool, true, false, ◌&&◌, List, [], ◌∷◌, ◌++◌, length, get_or, drop, take, refl, sym, ap, ◌∙◌, subst}
use Rattle.word_dag.specs.declared.node.Node.{Node}
use Rattle.word_dag.specs.Nodes.{Naming}
use Rattle.word_dag.specs.Adding.{Keeps}
use Rattle.vlog_tree.specs.declared.expr.Expr.{Expr}
use Rattle.vlog_tree.specs.declared.stmt.CaseItem.{CaseItem}
use Rattle.vlog_tree.specs.declared.stmt.CaseKind.{CaseKind}
use Rattle.vlog_tree.specs.declared.valuation.Entry.{Entry}
use Rattle.vlog_tree.specs.Value.{value_of, bit}
use Rattle.vlog_tree_values.specs.Shapes.{each_formed}
use Rattle.vlog_tree_runs.specs.Blocks.{widest, all_signed, exprs_in, any_matches}
use Rattle.elab_step_expr.specs.declared.leaves.Leaf.{Leaf}
use Rattle.elab_step_expr.specs.Leaves.{valued, AreReady}
use Rattle.elab_step_expr.specs.Nodes.{number_at, words, Makes, IsNode}
use Rattle.elab_step_expr.proofs.Kept.{node_kept, number_kept, made_node, made_number, valued_kept, ready_kept, keeps_then}
use Rattle.elab_step_blocks.specs.Ready.{ArePlaced}
use Rattle.elab_step_blocks.specs.Cases.{each_labels, is_chosen, AreMatches}
use Rattle.elab_step_blocks.proofs.Joins.{take_next}
use Rattle.elab_step_blocks.proofs.Labelling.{drop_at, widest_append, signed_append, Longest}

-- ---- labels of items

max_max : (a b c : ℕ) → max (max a b) c ≡ max a (max b c)
max_max a b c = omega arith

and_and : (a b c : Bool) → ((a && b) && c) ≡ (a && (b && c))
and_and true b c = refl
and_and false b c = refl

labels_next : (items : List CaseItem) (i : ℕ) (x d : CaseItem) → i < length items → x ≡ get_or items i d → each_labels (drop i items) ≡ exprs_in x.labels ++ each_labels (drop (i + 1) items)
labels_next items i x d lt is = ap each_labels (drop_at items i d lt ∙ ap (λ z. z ∷ drop (i + 1) items) (sym is))

pub longest_item : (v : List Entry) (items : List CaseItem) (i : ℕ) (x d : CaseItem) (n k m : ℕ) (s o t : Bool) → i < length items → x ≡ get_or items i d → k ≡ max n (widest v (exprs_in x.labels)) → o ≡ (s && all_signed v (exprs_in x.labels))
    → Longest v n s (each_labels (drop i items)) m t → Longest v k o (each_labels (drop (i + 1) items)) m t
longest_item v items i x d n k m s o t lt is w g h =
    let xs = exprs_in x.labels in
    let rest = each_labels (drop (i + 1) items) in
    let here = labels_next items i x d lt is in (
      ap (λ z. max z (widest v rest)) w ∙ (max_max n (widest v xs) (widest v rest) ∙ (ap (max n) (sym (ap (widest v) here ∙ widest_append v xs rest)) ∙ h.0)),
      ap (λ z. z && all_signed v rest) g ∙ (and_and s (all_signed v xs) (all_signed v rest) ∙ (ap (λ z. s && z) (sym (ap (all_signed v) here ∙ signed_append v xs rest)) ∙ h.1)),
    )

formed_left : (v : List Entry) (xs ys : List Expr) → each_formed v (xs ++ ys) → each_formed v xs
formed_left v [] ys h = tt
formed_left v (x ∷ xs) ys h = (h.0, formed_left v xs ys h.1)

formed_right : (v : List Entry) (xs ys : List Expr) → each_formed v (xs ++ ys) → each_formed v ys
formed_right v [] ys h = h
formed_right v (x ∷ xs) ys h = formed_right v xs ys h.1

pub item_formed : (v : List Entry) (items : List CaseItem) (i : ℕ) (x d : CaseItem) → each_formed v (each_labels items) → i < length items → x ≡ get_or items i d → each_formed v (exprs_in x.labels)
item_formed v [] i x d h lt is = absurd (omega arith)
item_formed v (y ∷ ys) zero x d h lt is = subst (λ (z : CaseItem). each_formed v (exprs_in z.labels)) (sym is) (formed_left v (exprs_in y.labels) (each_labels ys) h)
item_formed v (y ∷ ys) (suc i) x d h lt is = item_formed v ys i x d (formed_right v (exprs_in y.labels) (each_labels ys) h) (omega arith) is

placed_left : (v : List Entry) (n : ℕ) (s : Bool) (xs ys : List Expr) → ArePlaced v (xs ++ ys) n s → ArePlaced v xs n s
placed_left v n s [] ys h = tt
placed_left v n s (x ∷ xs) ys h = (h.0, placed_left v n s xs ys h.1)

placed_right : (v : List Entry) (n : ℕ) (s : Bool) (xs ys : List Expr) → ArePlaced v (xs ++ ys) n s → ArePlaced v ys n s
placed_right v n s [] ys h = h
placed_right v n s (x ∷ xs) ys h = placed_right v n s xs ys h.1

pub item_placed : (v : List Entry) (n : ℕ) (s : Bool) (items : List CaseItem) (i : ℕ) (x d : CaseItem) → ArePlaced v (each_labels items) n s → i < length items → x ≡ get_or items i d → ArePlaced v (exprs_in x.labels) n s
item_placed v n s [] i x d h lt is = absurd (omega arith)
item_placed v n s (y ∷ ys) zero x d h lt is = subst (λ (z : CaseItem). ArePlaced v (exprs_in z.labels) n s) (sym is) (placed_left v n s (exprs_in y.labels) (each_labels ys) h)
item_placed v n s (y ∷ ys) (suc i) x d h lt is = item_placed v n s ys i x d (placed_right v n s (exprs_in y.labels) (each_labels ys) h) (omega arith) is

pub placed_formed : (v : List Entry) (n : ℕ) (s : Bool) (xs : List Expr) → ArePlaced v xs n s → each_formed v xs
placed_formed v n s [] h = tt
placed_formed v n s (x ∷ xs) h = (h.0.ready.formed, placed_formed v n s xs h.1)

-- ---- one item more

matches_kept : (kind : CaseKind) (ls : List Leaf) (a : Expr) (n : ℕ) (s : Bool) (old b c : List Node) (is : List CaseItem) (zs : List ℕ) → Keeps b c → AreMatches kind ls a n s old is zs b → AreMatches kind ls a n s old is zs c
matches_kept kind ls a n s old b c [] [] k h = tt
matches_kept kind ls a n s old b c [] (z ∷ zs) k h = absurd h
matches_kept kind ls a n s old b c (i ∷ is) [] k h = absurd h
matches_kept kind ls a n s old b c (i ∷ is) (z ∷ zs) k h = (node_kept b c z 1 k h.0, λ e. number_kept e b c z 1 k h.0 ∙ h.1 e, matches_kept kind ls a n s old b c is zs k h.2)

matches_push : (kind : CaseKind) (ls : List Leaf) (a : Expr) (n : ℕ) (s : Bool) (old new : List Node) (is : List CaseItem) (zs : List ℕ) (i : CaseItem) (z : ℕ) → AreMatches kind ls a n s old is zs new → IsNode new z 1
    → ((e : Naming) → number_at e new z ≡ bit (any_matches kind (valued ls (words e old)) n s a i.labels)) → AreMatches kind ls a n s old (is ++ i ∷ []) (zs ++ z ∷ []) new
matches_push kind ls a n s old new [] [] i z h k m = (k, m, tt)
matches_push kind ls a n s old new [] (y ∷ zs) i z h k m = absurd h
matches_push kind ls a n s old new (j ∷ is) [] i z h k m = absurd h
matches_push kind ls a n s old new (j ∷ is) (y ∷ zs) i z h k m = (h.0, h.1, matches_push kind ls a n s old new is zs i z h.2 k m)

-- the bits so far, and the subject's node
pub record Matching (kind : CaseKind) (ls : List Leaf) (a : Expr) (n : ℕ) (s : Bool) (old : List Node) (node : ℕ) (is : List CaseItem) (zs : List ℕ) (now : List Node) : Type 0 where
  pub keeps : Keeps old now
  pub ready : AreReady ls now
  pub subject : IsNode now node n
  pub value : (e : Naming) → number_at e now node ≡ value_of (valued ls (words e old)) a n s
  pub matches : AreMatches kind ls a n s old is zs now

pub matching_next : (kind : CaseKind) (ls : List Leaf) (a : Expr) (n : ℕ) (s : Bool) (old now new : List Node) (node k z : ℕ) (items : List CaseItem) (zs ys : List ℕ) (x d : CaseItem) → AreReady ls old → Matching kind ls a n s old node (take k items) zs now
    → Keeps now new → k < length items → x ≡ get_or items k d → Makes new z 1 (λ e. bit (is_chosen kind (valued ls (words e now)) n s (number_at e now node) x.labels)) → ys ≡ zs ++ z ∷ [] → Matching kind ls a n s old node (take (k + 1) items) ys new
matching_next kind ls a n s old now new node k z items zs ys x d ready h keeps lt is made pushed = record {
  keeps = keeps_then old now new h.keeps keeps;
  ready = ready_kept ls now new keeps h.ready;
  subject = node_kept now new node n keeps h.subject;
  value = λ e. number_kept e now new node n keeps h.subject ∙ h.value e;
  matches = rw (pushed, take_next items k x d lt is) (matches_push kind ls a n s old new (take k items) zs x z (matches_kept kind ls a n s old now new (take k items) zs keeps h.matches) (made_node new z 1 _ made)
      (λ e. made_number e new z 1 _ made ∙ λ i. bit (is_chosen kind (valued_kept e ls old now h.keeps ready i) n s (h.value e i) x.labels)));
}
