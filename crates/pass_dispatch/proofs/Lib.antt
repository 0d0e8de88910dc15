-- Laws of the choice by kind, and of what stands before a body.
pub mod DispatchLaws
