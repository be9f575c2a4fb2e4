-- A `&` to a strong share holds a share of its token, and one to a share that holds its value shows that. Assumes `Logic`.
use Rattle.std.proofs.Common.{[], ◌∷◌, ◌++◌}
use base.Fml.{Incl-trans}
use contract.BorrowLft.{meet_⊑_left}
use denote.Shares.{Shares-less}
use denote.Struct.Tuple.{Tuple}
use denote.RattleType.{RattleType}
use denote.Param.Laws.{Laws}
use denote.Param.Shared.{copy_shared}
use denote.Struct.Field.{RawPtr-field}
use denote.Struct.Laws.{RawPtr-copy, field_copy}
use denote.Struct.Lending.{of_Lends}
use Rattle.core.specs.contracts.marker.PhantomData as marker
use Rattle.core.specs.declared.alloc.Allocator.{Ghosts}
use Rattle.stabby_count_word.specs.declared.rule.CountRule.{Ghosts as RuleGhosts}
use Rattle.stabby_count_word.specs.contracts.share.Share as C
use Rattle.stabby_count_word.proofs.share.Share.TheLaw.Statement.{statement}
use Rattle.stabby_count_word.proofs.ShareSteps.{share_laws, Lends-share}

pub shares : (T B X Y : RattleType) (g : Ghosts B.Denot) (r : RuleGhosts Y.Denot X.Denot) (L : Laws T) (K : Laws B) (LX : Laws X) (LY : Laws Y) → statement T B X Y g r L K LX LY
shares T B X Y g r L K LX LY = let Both = Tuple (X ∷ Y ∷ []) in of_Lends (C.struct T B X Y g r) (C.the_codes T.Denot B.Denot X.Denot Y.Denot T.coded B.coded X.coded Y.coded (marker.the_row Both).coded) (C.the_heap T B X Y g r) (C.the_lent T B X Y g r)
    (λ d p. share_laws B T L.shr_laws (d.round, (d.value, d.ptr)) d.kind)
    (copy_shared RawPtr-field RawPtr-copy, (copy_shared (marker.the_field Both) (field_copy (marker.the_type Both) tt), tt))
    (λ M 𝓤 𝓛 d p. let l = (C.the_row T B X Y g r).lives in Lends-share B T L.shr_laws (d.round, (d.value, d.ptr)) 𝓛 g.dealloc_token X.coded.code r.holds d.names l
    (Shares-less 𝓛 T T.lives l (Incl-trans (meet_⊑_left (T.lives ++ (B.lives ++ (X.lives ++ (Y.lives ++ [])))) _) (meet_⊑_left T.lives (B.lives ++ (X.lives ++ (Y.lives ++ []))))) (L.shares 𝓛) d.value) d.kind d.id d.view)
