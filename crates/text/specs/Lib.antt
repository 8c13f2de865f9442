pub mod TokenEnds
