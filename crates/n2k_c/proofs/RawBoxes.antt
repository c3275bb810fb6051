-- The machine value of a raw box: the pointer of the box, then the word of its allocator. Assumes `Logic`.
--     pair          such a value
--     pair_good     it has the type that the fields give
--     raw_box_out      a raw box by value owns its box, at a block, and its allocator's word
--     raw_box_in       these two make a raw box
use Rattle.std.proofs.Common.{◌≡◌, ℕ, List, [], ◌∷◌, ◌++◌, refl, subst, true, ◌&&◌, T}
use seplogic.Ra.Ura.{Ura}
use mir.Syntax.{impl, tnil, dnil}
use mir.Raw.{raw as bare}
use mir.Val.{Val, vptr, vstruct, vcons, vnil, of_list, has_ty, WT}
use base.Fml.{Fml}
use base.Logic.{SProp, never, fst∗}
use types.Logic.{Logic, sem}
use types.Kit.{Item, Goal, Seq, Step, step, ‵, ◌$◌, move, drop, fsplit, fjoin, fpick, fpack, feq_i, feq_l}
use denote.RattleType.{RattleType, Valss}
use denote.Builtin.{RawPtr}
use denote.Memory.{lone}
use denote.RawPtr.{Ptr, block_ptr, null_ptr, ptr_val, in_a_block}
use denote.Steps.{nothing}
use denote.Param.{layout}
use denote.Param.Laws.{Laws}
use denote.Struct.Struct.{within}
use denote.Struct.Owning.{shape}
use Rattle.std.specs.declared.alloc.Allocator.{Ghosts}
use Rattle.std.proofs.alloc.Calls.{Al, handle_tells}
use Rattle.std.proofs.cell.Inside.{Good}
use Rattle.std.specs.Box.Ownership.{box_owns}
use Rattle.std.proofs.ResultValues.{and_tt}
use Rattle.n2k_c.specs.contracts.raw_box.RawBox as raw_box

abbrev pub pair : Val → Val → Val
pair pointer word = vstruct (vcons pointer (vcons word vnil))

module _ (R Z : RattleType) (laws : Laws Z) (g : Ghosts Z.Denot) where
  abbrev pub RawBox : RattleType
  RawBox = raw_box.the_row R Z g

  abbrev pub allocates : Al
  allocates = record { row = Z; laws = laws; g = g; d = impl [] tnil dnil; drops = impl [] tnil dnil }

  -- what a raw box owns of its box, wherever that lies
  abbrev pub boxed : RawBox.Denot → Ptr → Fml
  boxed d p = box_owns (g.dealloc_token d.alloc) R p d.value

  pub pair_good : (b o : ℕ) (word : Val) → Good (layout Z) word → T (has_ty (layout Z) word && true) × WT (pair (vptr b o) word)
  pair_good b o word good = (and_tt (has_ty (layout Z) word) good.0, (tt, (good.1, tt)))

  -- the values that the fields have are those of the pair
  spelled : (vs words : List Val) (p : Ptr) (ps : List Val) (b o : ℕ) (word : Val) → vs ≡ vstruct (of_list (ps ++ (words ++ []))) ∷ [] → ps ≡ ptr_val p ∷ [] → words ≡ word ∷ [] → p ≡ block_ptr b o → vs ≡ pair (vptr b o) word ∷ []
  spelled vs words p ps b o word all is_p is_word at =
      subst (λ (q : Ptr). vs ≡ vstruct (of_list (ptr_val q ∷ word ∷ [])) ∷ []) at
      (subst (λ (ws : List Val). vs ≡ vstruct (of_list (ptr_val p ∷ (ws ++ []))) ∷ []) is_word
      (subst (λ (qs : List Val). vs ≡ vstruct (of_list (qs ++ (words ++ []))) ∷ []) is_p all))

  module _ {M : Type 1} {𝓤 : Ura M} {𝓛 : Logic 𝓤} {K : Type 0} {Γ : List (Item 𝓤)} {G : Goal 𝓤 𝓛.H} where
    pub raw_box_out : K → (d : RawBox.Denot) (vs : List Val)
        → ((b o : ℕ) (word : Val) → d.at ≡ block_ptr b o → vs ≡ pair (vptr b o) word ∷ [] → Good (layout Z) word
        → Seq K 𝓛 (‵ (boxed d (block_ptr b o)) ∷ ‵ (Z.own_val d.alloc (word ∷ [])) ∷ Γ) G)
        → Seq K 𝓛 (‵ (RawBox.own_val d vs) ∷ Γ) G
    raw_box_out t d vs go =
        let at_null : SProp 𝓤 = sem 𝓛 (g.dealloc_token d.alloc (bare (lone R.mir)) null_ptr) in
        -- the fields' values, what they spell, and the pointer's
        fsplit t $ fpick t (λ fields. fsplit t $ feq_l t (λ all. fsplit t $ feq_l t (λ is_p. fsplit t $
        handle_tells allocates t d.alloc fields.1.0 (λ word is_word good. move t (1 ∷ []) $ drop t $ move t (1 ∷ []) $
        in_a_block t d.at (boxed d) (fst∗ 𝓤 (never 𝓤) at_null) (λ b o at.
        go b o word at (spelled vs fields.1.0 d.at fields.0 b o word all is_p is_word at) good)))))

    pub raw_box_in : K → (b o : ℕ) (word : Val) (a : Z.Denot) (x : R.Denot)
        → Step K 𝓛 (‵ (RawBox.own_val (record { at = block_ptr b o; alloc = a; value = x }) (pair (vptr b o) word ∷ [])) ∷ Γ) G
        (‵ (box_owns (g.dealloc_token a) R (block_ptr b o) x) ∷ ‵ (Z.own_val a (word ∷ [])) ∷ Γ) G
    raw_box_in t b o word a x = step (λ rest.
        let whole : List Val = pair (vptr b o) word ∷ [] in
        let held = within (shape (raw_box.the_type R Z g)) (block_ptr b o, (a, tt)) whole in
        nothing t $ move t (2 ∷ 0 ∷ []) $ fjoin t $
        feq_i t (List Val) (vptr b o ∷ []) (vptr b o ∷ []) refl $ fjoin t $
        feq_i t (List Val) whole whole refl $ fjoin t $
        fpack t (Valss (RawPtr ∷ Z ∷ [])) held (vptr b o ∷ [], (word ∷ [], tt)) $ fjoin t $ rest)
