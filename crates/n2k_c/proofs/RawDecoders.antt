-- The machine values of a `RawDecoder`, and the rows of a `RawBox` of what is kept. Assumes `Logic`.
use Rattle.std.proofs.Common.{◌≡◌, List, [], ◌∷◌, ◌++◌, refl, sym, subst, true≢false, Option, Some, None, IsSome}
use seplogic.Ra.Ura.{Ura}
use mir.Val.{Val, vstruct, vcons, vnil, of_list}
use types.Logic.{Logic}
use types.Kit.{Item, Goal, Seq, Step, step, ‵, ◌$◌, drop, fsplit, fjoin, fpick, fpack, feq_i, feq_l}
use denote.RattleType.{RattleType, Valss}
use denote.Builtin.{RawPtr}
use denote.Param.Laws.{Laws}
use denote.RawPtr.{Ptr, ptr_val}
use denote.Steps.{nothing}
use denote.Struct.Struct.{within}
use denote.Struct.Owning.{shape}
use Rattle.std.specs.declared.alloc.Allocator.{Ghosts}
use Rattle.std.specs.contracts.alloc.Global as heap
use Rattle.std.proofs.alloc.Global.TheLaws as heap_laws
use Rattle.std.specs.contracts.impls.GlobalAllocator.TheImpl as impl
use Rattle.n2k_c.specs.declared.decoder.Decoder.{Decoder}
use Rattle.n2k_c.specs.contracts.decoder.Decoder as kept
use Rattle.n2k_c.specs.contracts.raw_decoder.RawDecoder as raw_decoder
use Rattle.n2k_c.specs.DecoderView.{owned_of}

abbrev pub R : RattleType
R = kept.the_row

abbrev pub Z : RattleType
Z = heap.the_row

abbrev pub LZ : Laws Z
LZ = heap_laws.the_row_laws

abbrev pub g : Ghosts Z.Denot
g = impl.ghosts

abbrev pub RawDecoder : RattleType
RawDecoder = raw_decoder.the_row

abbrev pub word : Ptr → Val
word p = vstruct (vcons (ptr_val p) vnil)

module _ {M : Type 1} {𝓤 : Ura M} {𝓛 : Logic 𝓤} {K : Type 0} {Γ : List (Item 𝓤)} {G : Goal 𝓤 𝓛.H} where
  pub raw_decoder_out : K → (d : RawDecoder.Denot) (vs : List Val) → (vs ≡ word d.at ∷ [] → Seq K 𝓛 (‵ (owned_of R d.at d.holds) ∷ Γ) G) → Seq K 𝓛 (‵ (RawDecoder.own_val d vs) ∷ Γ) G
  raw_decoder_out t d vs k = fsplit t $ fpick t (λ vss. fsplit t $ feq_l t (λ ev. fsplit t $ feq_l t (λ ep. drop t $
      k (subst (λ (ps : List Val). vs ≡ vstruct (of_list (ps ++ [])) ∷ []) ep ev))))

  pub raw_decoder_in : K → (p : Ptr) (x : Option Decoder) → Step K 𝓛 (‵ (RawDecoder.own_val (record { at = p; holds = x }) (word p ∷ [])) ∷ Γ) G (‵ (owned_of R p x) ∷ Γ) G
  raw_decoder_in t p x = step (λ s. nothing t $ feq_i t (List Val) (ptr_val p ∷ []) (ptr_val p ∷ []) refl $ fjoin t $ feq_i t (List Val) (word p ∷ []) (word p ∷ []) refl $ fjoin t $
      fpack t (Valss (RawPtr ∷ [])) (within (shape raw_decoder.the_type) (p, tt) (word p ∷ [])) (ptr_val p ∷ [], tt) $ fjoin t $ s)

-- what an option has
pub the : {A : Type 0} (o : Option A) → IsSome o → A
the (Some x) h = x
the None h = absurd (true≢false (sym h))

pub the_is : {A : Type 0} (o : Option A) (h : IsSome o) → o ≡ Some (the o h)
unfolding the
the_is (Some x) h = refl
the_is None h = absurd (true≢false (sym h))
