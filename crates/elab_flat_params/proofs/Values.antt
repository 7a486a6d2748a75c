-- What expressions give parameters.
use Rattle.std.proofs.Common.{ℕ, ◌≡◌, ◌<◌, ◌^◌, ◌%◌, ◌/◌, max, Bool, List, Option, Some, None, refl, sym, ap, subst, ◌∙◌, arith}
use Rattle.vlog_tree.specs.declared.expr.Constant.{Constant}
use Rattle.vlog_tree.specs.declared.expr.Expr.{Expr}
use Rattle.vlog_tree.specs.declared.item.Range.{Range}
use Rattle.vlog_tree.specs.declared.valuation.Entry.{Entry}
use Rattle.vlog_tree.specs.Valuation.{IsLength}
use Rattle.vlog_tree.specs.Value.{width_of, sign_of, assigned}
use Rattle.vlog_tree_runs.specs.Contents.{Param}
use Rattle.vlog_tree_runs.specs.Scopes.{width_in, lowest_in, sign_in, converted}
use Rattle.elab_flat_params.specs.declared.range.Vector.{Vector}
use Rattle.elab_flat_params.specs.declared.unfit.Unfit.{Unfit}
use Rattle.elab_flat_params.specs.Constants.{IsUnfit}
use Rattle.elab_flat_params.specs.Values.{HasBits, width_with, low_with, sign_with, Converts, IsUnfitValue, StandsFor}

max_self : (n : ℕ) → max n n ≡ n
max_self n = grind arith

-- the declared bits are those of the range
module _ (v : List Entry) where
  pub same_width : (o : Option Range) (d : Option Vector) (n : ℕ) → HasBits v o d → width_in o n v ≡ width_with d n
  same_width None None n h = refl
  same_width (Some x) (Some d) n h = sym h.spans.width
  same_width None (Some d) n h = absurd h
  same_width (Some x) None n h = absurd h

  pub same_low : (o : Option Range) (d : Option Vector) → HasBits v o d → lowest_in o v ≡ low_with d
  same_low None None h = refl
  same_low (Some x) (Some d) h = sym h.spans.lowest
  same_low None (Some d) h = absurd h
  same_low (Some x) None h = absurd h

  pub same_sign : (o : Option Range) (d : Option Vector) (s t : Bool) → HasBits v o d → sign_in o s t ≡ sign_with d s t
  same_sign None None s t h = refl
  same_sign (Some x) (Some d) s t h = refl
  same_sign None (Some d) s t h = absurd h
  same_sign (Some x) None s t h = absurd h

  pub bits_length : (o : Option Range) (d : Option Vector) → HasBits v o d → (e : Vector) → d ≡ Some e → IsLength e.width
  bits_length None None h e is = cc
  bits_length (Some x) (Some d) h e is = let same : d ≡ e = cc in subst (λ z. IsLength z.width) same h.spans.length
  bits_length None (Some d) h e is = absurd h
  bits_length (Some x) None h e is = absurd h

-- a parameter over the declared bits
module _ (p : Param) (done : List Entry) (d : Option Vector) (bits : HasBits done p.shape.range d) (v : List Entry) (a : Expr) where
  pub stands : (k : Constant) → Converts v a p.shape.signed d k → StandsFor (converted p v a done) k
  stands k c =
      let w = same_width done p.shape.range d (width_of v a) bits in
      record {
        meaning = λ i. record {
          width = (c.width ∙ sym w) i;
          low = (c.low ∙ sym (same_low done p.shape.range d bits)) i;
          signed = (c.sign ∙ sym (same_sign done p.shape.range d p.shape.signed (sign_of v a) bits)) i;
          value = (c.value ∙ ap (assigned v a) (sym w)) i;
        };
        length = c.length;
        fits = c.fits;
      }

  pub unfit_value : (cause : Unfit) → IsUnfit v a (max (width_of v a) (width_with d 0)) cause → IsUnfitValue v a p done cause
  unfit_value cause u = subst (λ n. IsUnfit v a (max (width_of v a) n) cause) (sym (same_width done p.shape.range d 0 bits)) u
